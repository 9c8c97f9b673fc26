-- A link whose messages were sent ahead of their answers.
use Rattle.std.proofs.Common.{◌≡◌, ◌≢◌, ◌⊎◌, ℕ, List, Option, None, Some, inl, inr, sym, ap, ◌∙◌, subst}
use Rattle.std.specs.Prelude.{MatchOption}
use Rattle.oram_link_laws.specs.Runs.{Exchange}
use Rattle.oram_pipeline.specs.Pipelines.{EndsBatch}
use Rattle.oram_rounds.specs.Batches.{BatchOutcome}
use Rattle.oram_client.specs.Attempts.{Attempt}
use Rattle.oram_client.specs.Pipelined.{AwaitsAhead, EndsAwaited, EndsTry, GoesOn, IsAwaited, IsSending, LinkAsk, NoneAhead}
use Rattle.oram_client.specs.Reconnect.{DialerKind, IsGivenUp, IsTried, LinkBatch, MakesTries, ReconnectBatch, ReconnectState, limits}
use Rattle.oram_client.specs.declared.awaited.Awaited.{Awaited}
use Rattle.oram_client.specs.declared.awaited.Awaited.TheVariants.{Ahead, Begun}
use Rattle.oram_client.specs.declared.awaited.AheadBatch.{AheadBatch}
use Rattle.oram_client.specs.declared.dialer.Trouble.{Trouble}

module _ {D L : Type 0} (kind : DialerKind D L) where
  -- a batch, whatever the link awaited before
  tries_anyway : (k m : ReconnectState D L) (x : Option (Awaited L)) (bodies : List (List ℕ)) (o : BatchOutcome) (exchanges : List Exchange)
      → MakesTries kind k bodies o exchanges m → MakesTries kind (record k { awaited = x }) bodies o exchanges m
  tries_anyway k m x bodies o exchanges h = record {
    begin = h.begin;
    first = h.first;
    read = h.read;
    vain = h.vain;
    last = h.last;
    delays = h.delays;
    came = h.came;
    heard = h.heard;
    mid = h.mid;
    tried = h.tried;
    shows = h.shows;
    ends = h.ends;
    says = h.says;
    all = h.all;
  }

  passes_anyway : (gave_up : Option Trouble) (k m : ReconnectState D L) (x : Option (Awaited L)) (bodies : List (List ℕ)) (o : BatchOutcome) (exchanges : List Exchange)
      → MatchOption gave_up (MakesTries kind k bodies o exchanges m) (λ why. IsGivenUp kind k o exchanges m)
      → MatchOption gave_up (MakesTries kind (record k { awaited = x }) bodies o exchanges m) (λ why. IsGivenUp kind (record k { awaited = x }) o exchanges m)
  passes_anyway None k m x bodies o exchanges h = tries_anyway k m x bodies o exchanges h
  passes_anyway (Some why) k m x bodies o exchanges h = record { says = h.says; unsent = h.unsent; same_dialer = h.same_dialer; same_line = h.same_line; same_trouble = h.same_trouble }

  -- a batch over a link that differs at most in what it awaits
  pub same_batch : (l k m : ReconnectState D L) (bodies : List (List ℕ)) (o : BatchOutcome) (exchanges : List Exchange) → k.dialer ≡ l.dialer → k.line ≡ l.line
      → k.reconnect_timeout ≡ l.reconnect_timeout → k.trouble ≡ l.trouble → ReconnectBatch kind k bodies o exchanges m → ReconnectBatch kind l bodies o exchanges m
  same_batch l k m bodies o exchanges dialer line timeout trouble h =
      subst (λ (p : ReconnectState D L). ReconnectBatch kind p bodies o exchanges m)
      (λ i. record { dialer = dialer i; line = line i; reconnect_timeout = timeout i; trouble = trouble i; awaited = l.awaited })
      (record { passed = passes_anyway k.trouble k m l.awaited bodies o exchanges h.passed; reconnect_timeout = h.reconnect_timeout })

  module _ (asks : D → L → List (List ℕ) → L → Type 0) where
    -- The link `k` becomes `b` by the first try, and `m` by all others.
    pub awaited_ends : (k b m : ReconnectState D L) (bodies : List (List ℕ)) (awaited : AheadBatch L) (came : Attempt) (o : BatchOutcome)
        → EndsTry kind asks k bodies awaited.sending came b → b ≡ record k { dialer = b.dialer; line = b.line } → GoesOn kind awaited.begin b bodies came o m
        → EndsAwaited kind asks k bodies awaited o m
    awaited_ends k b m bodies awaited came o ends after goes l timeout is =
        let first = ends is.line (limits l.reconnect_timeout l.reconnect_timeout) is.sending in
        goes l k.dialer first.0 is.read (ap (λ (p : ReconnectState D L). p.reconnect_timeout) after ∙ timeout)
        (subst (λ (o : Option L). IsTried kind.opens kind.fails kind.carries k.dialer o (limits l.reconnect_timeout l.reconnect_timeout) bodies came first.0 b.dialer b.line) (sym is.was_open) first.1)

    -- what was awaited is taken out of the link `k`, which becomes `n`, and the batch ends
    pub taken_ends : (learns : D → ℕ → D → Type 0) (k n m : ReconnectState D L) (bodies : List (List ℕ)) (awaited : AheadBatch L) (o : BatchOutcome)
        → k.awaited ≡ Some (Ahead awaited) → n ≡ record k { awaited = n.awaited } → EndsAwaited kind asks n bodies awaited o m → m.reconnect_timeout ≡ n.reconnect_timeout
        → EndsBatch (LinkBatch kind learns) (LinkAsk kind asks) bodies k o m
    taken_ends learns k n m bodies awaited o held taken ends same l asked =
        let dialer : n.dialer ≡ k.dialer = ap (λ (p : ReconnectState D L). p.dialer) taken in
        let timeout : n.reconnect_timeout ≡ l.reconnect_timeout = ap (λ (p : ReconnectState D L). p.reconnect_timeout) taken ∙ asked.reconnect_timeout in
        let is : IsAwaited kind asks l bodies awaited k =
        subst (λ (a : Option (Awaited L)). MatchOption a ((k.dialer ≡ l.dialer) × (k.line ≡ l.line)) (λ x. AwaitsAhead kind asks l bodies x k)) held asked.asked in
        let here : IsAwaited kind asks l bodies awaited n = record {
          going = is.going;
          line = is.line;
          was_open = is.was_open;
          read = subst (λ (d : D). kind.reads l.dialer awaited.begin d) (sym dialer) is.read;
          sending = subst (λ (d : D). IsSending asks kind.carries d is.line bodies awaited.sending) (sym dialer) is.sending;
          no_other = ap (λ (p : ReconnectState D L). p.line) taken ∙ is.no_other;
        } in
        let made = ends l timeout here in (
          made.0,
          inl (inl (record {
            passed = subst (λ (t : Option Trouble). MatchOption t (MakesTries kind l bodies o made.0 m) (λ why. IsGivenUp kind l o made.0 m)) (sym is.going) made.1;
            reconnect_timeout = same ∙ timeout;
          })),
        )

    -- a link that was asked and has nothing to end is as it was
    unchanged : (l k : ReconnectState D L) (bodies : List (List ℕ)) (held : Option (Awaited L)) → l.trouble ≡ k.trouble → NoneAhead held ⊎ (k.trouble ≢ None)
        → MatchOption held ((k.dialer ≡ l.dialer) × (k.line ≡ l.line)) (λ x. AwaitsAhead kind asks l bodies x k) → (k.dialer ≡ l.dialer) × (k.line ≡ l.line)
    unchanged l k bodies None same not_due asked = asked
    unchanged l k bodies (Some (Ahead x)) same (inl none) asked = absurd none
    unchanged l k bodies (Some (Ahead x)) same (inr gave_up) asked = absurd (gave_up (sym same ∙ asked.going))
    unchanged l k bodies (Some (Begun x)) same not_due asked = absurd asked

    -- nothing has to be ended, and all messages are sent now
    pub sent_now : (learns : D → ℕ → D → Type 0) (k n m : ReconnectState D L) (bodies : List (List ℕ)) (o : BatchOutcome)
        → NoneAhead k.awaited ⊎ (k.trouble ≢ None) → n ≡ record k { awaited = n.awaited } → (exchanges : List Exchange) × ReconnectBatch kind n bodies o exchanges m
        → EndsBatch (LinkBatch kind learns) (LinkAsk kind asks) bodies k o m
    sent_now learns k n m bodies o not_due taken batch l asked =
        let same = unchanged l k bodies k.awaited (sym asked.trouble) not_due asked.asked in (
          batch.0,
          inl (inl (same_batch l n m bodies o batch.0 (ap (λ (p : ReconnectState D L). p.dialer) taken ∙ same.0) (ap (λ (p : ReconnectState D L). p.line) taken ∙ same.1)
              (ap (λ (p : ReconnectState D L). p.reconnect_timeout) taken ∙ asked.reconnect_timeout) (ap (λ (p : ReconnectState D L). p.trouble) taken ∙ asked.trouble) batch.1)),
        )
