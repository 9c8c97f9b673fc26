-- Batches whose messages are sent ahead of their answers.
use Rattle.std.specs.Prelude.{◌≡◌, ℕ, List, Option, None, Some, Err, MatchOption, ⊤}
use Rattle.oram_link_laws.specs.Runs.{Exchange}
use Rattle.oram_rounds.specs.Batches.{BatchOutcome}
use Rattle.oram_client.specs.Attempts.{Attempt}
use Rattle.oram_client.specs.Reconnect.{DialerKind, IsTried, MakesTries, ReconnectState, limits}
use Rattle.oram_client.specs.declared.awaited.Awaited.{Awaited}
use Rattle.oram_client.specs.declared.awaited.Awaited.TheVariants.{Ahead, Begun}
use Rattle.oram_client.specs.declared.awaited.Sending.{Sending}
use Rattle.oram_client.specs.declared.awaited.AheadBatch.{AheadBatch}
use Rattle.oram_client.specs.declared.awaited.Sending.TheVariants.{Sent, Unsent, Failed}
use Rattle.oram_client.specs.declared.dialer.Limits.{Limits}

-- for dialers that send messages ahead by `asks`, and carry batches by `carries`
module _ {D L : Type 0} (asks : D → L → List (List ℕ) → L → Type 0) (carries : D → L → List (List ℕ) → Attempt → List Exchange → D → L → Type 0) where
  -- What became of messages that were to go ahead over a connection. If sending them failed, that is a batch.
  abbrev pub IsSending : D → L → List (List ℕ) → Sending L → Type 0
  IsSending d line bodies (Sent line') = asks d line bodies line'
  IsSending d line bodies (Unsent line') = line' ≡ line
  IsSending d line bodies (Failed trouble) = (exchanges : List Exchange) × (line' : L) × carries d line bodies (Err trouble) exchanges d line'

  -- Whichever connection became `line` when these messages were sent ahead, over it the whole is a batch.
  abbrev pub EndsCarrying : D → List (List ℕ) → L → Attempt → L → Type 0
  EndsCarrying d bodies line came line' = (before : L) → asks d before bodies line → (exchanges : List Exchange) × carries d before bodies came exchanges d line'

-- no messages were to go ahead
abbrev pub NoneAhead : {L : Type 0} → Option (Awaited L) → Type 0
NoneAhead None = ⊤
NoneAhead (Some (Ahead ahead)) = ⊥
NoneAhead (Some (Begun batch)) = ⊤

-- Whatever the link was before the first try of a batch, which came to `came` and made it `a`: the whole are tries until there are answers
-- for the caller, memory runs out, or no time is left.
abbrev pub GoesOn : {D L : Type 0} → DialerKind D L → Option ℕ → ReconnectState D L → List (List ℕ) → Attempt → BatchOutcome → ReconnectState D L → Type 0
GoesOn {D} {L} kind begin a bodies came outcome m = (l : ReconnectState D L) (first : D) (heard : List Exchange) → kind.reads l.dialer begin first
    → a.reconnect_timeout ≡ l.reconnect_timeout
    → IsTried kind.opens kind.fails kind.carries first l.line (limits l.reconnect_timeout l.reconnect_timeout) bodies came heard a.dialer a.line
    → (exchanges : List Exchange) × MakesTries kind l bodies outcome exchanges m

-- for links over dialers of this kind, which send messages ahead by `asks`
module _ {D L : Type 0} (kind : DialerKind D L) (asks : D → L → List (List ℕ) → L → Type 0) where
  -- The messages were to go ahead over the open connection, after the clock was read. The link holds no other connection.
  pub record IsAwaited (l : ReconnectState D L) (bodies : List (List ℕ)) (awaited : AheadBatch L) (k : ReconnectState D L) : Type 0 where
    pub going : l.trouble ≡ None
    pub line : L
    pub was_open : l.line ≡ Some line
    pub read : kind.reads l.dialer awaited.begin k.dialer
    pub sending : IsSending asks kind.carries k.dialer line bodies awaited.sending
    pub no_other : k.line ≡ None

  -- what a link awaits that was asked to send these messages ahead
  abbrev pub AwaitsAhead : ReconnectState D L → List (List ℕ) → Awaited L → ReconnectState D L → Type 0
  AwaitsAhead l bodies (Ahead ahead) k = IsAwaited l bodies ahead k
  AwaitsAhead l bodies (Begun batch) k = ⊥

  -- The link was asked to send these messages ahead. If there is nothing that it awaits then, it has done nothing.
  pub record LinkAsk (l : ReconnectState D L) (bodies : List (List ℕ)) (k : ReconnectState D L) : Type 0 where
    pub reconnect_timeout : k.reconnect_timeout ≡ l.reconnect_timeout
    pub trouble : k.trouble ≡ l.trouble
    pub asked : MatchOption k.awaited ((k.dialer ≡ l.dialer) × (k.line ≡ l.line)) (λ awaited. AwaitsAhead l bodies awaited k)

  -- Over whichever connection the messages were to go ahead, the whole is a try over it.
  abbrev pub EndsTry : ReconnectState D L → List (List ℕ) → Sending L → Attempt → ReconnectState D L → Type 0
  EndsTry a bodies sending came b = (line : L) (limits : Limits) → IsSending asks kind.carries a.dialer line bodies sending
      → (exchanges : List Exchange) × IsTried kind.opens kind.fails kind.carries a.dialer (Some line) limits bodies came exchanges b.dialer b.line

  -- Whichever link came to await this when it was asked to send these messages ahead, for it the whole are the tries of a batch.
  abbrev pub EndsAwaited : ReconnectState D L → List (List ℕ) → AheadBatch L → BatchOutcome → ReconnectState D L → Type 0
  EndsAwaited k bodies awaited outcome m = (l : ReconnectState D L) → k.reconnect_timeout ≡ l.reconnect_timeout → IsAwaited l bodies awaited k
      → (exchanges : List Exchange) × MakesTries kind l bodies outcome exchanges m
