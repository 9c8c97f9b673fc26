-- Batches whose answers are taken one by one, over a dialer's connections and over a link that tries again.
use Rattle.std.specs.Prelude.{◌≡◌, ◌⊎◌, ℕ, ◌+◌, ◌<◌, List, [], ◌∷◌, ◌++◌, drop, length, Option, None, Some, Result, Ok, Err, MatchResult, ⊤}
use Rattle.std.specs.Global.{Vec}
use Rattle.oram_link_laws.specs.Runs.{Exchange}
use Rattle.oram_rounds.specs.Batches.{BreaksOff}
use Rattle.oram_client.specs.Attempts.{Attempt}
use Rattle.oram_client.specs.Reconnect.{ReconnectState}
use Rattle.oram_client.specs.declared.awaited.Awaited.{Awaited}
use Rattle.oram_client.specs.declared.awaited.Awaited.TheVariants.{Ahead, Begun}
use Rattle.oram_client.specs.declared.awaited.Progress.{Progress}
use Rattle.oram_client.specs.declared.dialer.Trouble.{Trouble}

-- A kind of stream: the dialer and the connection as they were, the messages, the answers that were given to the first of them, how far the batch
-- has come, and the dialer and the connection as they are now.
abbrev pub StreamsOver : Type 0 → Type 0 → Type 1
StreamsOver D L = D → L → List (List ℕ) → List (List ℕ) → Progress → D → L → Type 0

-- for dialers that have batches by `carries`, and give the answers to one by one by `streams`
module _ {D L : Type 0} (carries : D → L → List (List ℕ) → Attempt → List Exchange → D → L → Type 0) (streams : StreamsOver D L) where
  -- The messages are sent, and no answer has been given yet. Or the whole was a batch without answers.
  abbrev pub BeginsOver : D → L → List (List ℕ) → Result Progress Trouble → D → L → Type 0
  BeginsOver d line bodies result e line' =
      MatchResult result (λ progress. streams d line bodies [] progress e line') (λ trouble. (exchanges : List Exchange) × carries d line bodies (Err trouble) exchanges e line')

  -- the batch broke off once its first messages had these answers
  abbrev pub BreaksOver : D → L → List (List ℕ) → List (List ℕ) → Trouble → D → L → Type 0
  BreaksOver d line bodies answers trouble e line' = (exchanges : List Exchange) × carries d line bodies (Err trouble) exchanges e line' × BreaksOff bodies answers exchanges

  -- The next message of the batch is this one, and its answer is given. Or the batch has broken off.
  abbrev pub GivesOver : D → L → Progress → List ℕ → Result (Vec ℕ) Trouble → D → L → Progress → Type 0
  GivesOver e line' progress body result e' line'' progress' =
      (d : D) (line : L) (bodies answers rest : List (List ℕ)) → streams d line bodies answers progress e line' → drop (length answers) bodies ≡ body ∷ rest
      → MatchResult result (λ answer. streams d line bodies (answers ++ answer.items ∷ []) progress' e' line'') (λ trouble. BreaksOver d line bodies answers trouble e' line'')

  -- once all answers are given, the whole was a batch with these answers
  abbrev pub EndsCarried : Type 0
  EndsCarried = (d e : D) (line line' : L) (bodies answers : List (List ℕ)) (progress : Progress) → streams d line bodies answers progress e line' → length answers ≡ length bodies
      → (exchanges : List Exchange) × carries d line bodies (Ok answers) exchanges e line'

-- it is known how many messages have no answer yet
abbrev pub CountsAnswers : {D L : Type 0} → StreamsOver D L → Type 0
CountsAnswers {D} {L} streams = (d e : D) (line line' : L) (bodies answers : List (List ℕ)) (progress : Progress) → streams d line bodies answers progress e line'
    → progress.left + length answers ≡ length bodies

-- no batch was begun whose answers are taken one by one
abbrev pub NoneBegun : {L : Type 0} → Option (Awaited L) → Type 0
NoneBegun None = ⊤
NoneBegun (Some (Ahead ahead)) = ⊤
NoneBegun (Some (Begun batch)) = ⊥

-- The connection over which a batch was begun is kept: with the batch, as long as more answers are to come.
abbrev pub HoldsBegun : {D L : Type 0} → L → Progress → ReconnectState D L → ReconnectState D L → Type 0
HoldsBegun line progress k m =
    ((progress.left ≡ 0) × (m ≡ record k { line = Some line })) ⊎ ((0 < progress.left) × (m ≡ record k { awaited = Some (Begun (record { line = line; progress = progress })) }))

-- A link has sent these messages over its open connection, and has given these answers to the first of them. While there are more to come, the
-- link awaits them; once there are none, the connection is open as before.
pub record LinkStreams {D L : Type 0} (streams : StreamsOver D L) (l : ReconnectState D L) (bodies answers : List (List ℕ)) (m : ReconnectState D L) : Type 0 where
  pub going : l.trouble ≡ None
  pub still_going : m.trouble ≡ None
  pub reconnect_timeout : m.reconnect_timeout ≡ l.reconnect_timeout
  pub line : L
  pub was_open : l.line ≡ Some line
  pub line' : L
  pub progress : Progress
  pub come : streams l.dialer line bodies answers progress m.dialer line'
  pub held : ((progress.left ≡ 0) × (m.line ≡ Some line'))
      ⊎ ((0 < progress.left) × (m.line ≡ None) × (m.awaited ≡ Some (Begun (record { line = line'; progress = progress }))))
