-- A batch whose answers are taken one by one, over a link that tries again.
use Rattle.std.proofs.Common.{◌≡◌, ℕ, List, [], ◌∷◌, ◌++◌, length, drop, None, Some, Ok, Err, inl, inr, refl, sym, ap, ◌∙◌, subst, arith, length-append}
use Rattle.std.specs.Global.{Vec}
use Rattle.oram_link_laws.specs.Runs.{Exchange}
use Rattle.oram_rounds.specs.Batches.{BreaksOff}
use Rattle.oram_rounds.proofs.NextAnswers.{next_fits}
use Rattle.oram_client.specs.Dialer.{fault_of}
use Rattle.oram_client.specs.Reconnect.{DialerKind, LinkBatch, ReconnectState}
use Rattle.oram_client.specs.Streaming.{CountsAnswers, GivesOver, HoldsBegun, LinkStreams, StreamsOver}
use Rattle.oram_client.specs.declared.awaited.Awaited.TheVariants.{Begun}
use Rattle.oram_client.specs.declared.awaited.BegunBatch.{BegunBatch}
use Rattle.oram_client.specs.declared.awaited.Progress.{Progress}
use Rattle.oram_client.specs.declared.dialer.Trouble.{Trouble}

module _ {D L : Type 0} (kind : DialerKind D L) (learns : D → ℕ → D → Type 0) (streams : StreamsOver D L) where
  -- The connection is kept as far as the batch has come: the link `b` becomes `m`.
  held : (l b m : ReconnectState D L) (line line' : L) (bodies answers : List (List ℕ)) (progress : Progress) → l.trouble ≡ None → l.line ≡ Some line → b.trouble ≡ None
      → b.reconnect_timeout ≡ l.reconnect_timeout → b.line ≡ None → streams l.dialer line bodies answers progress b.dialer line' → HoldsBegun line' progress b m → LinkStreams streams l bodies answers m
  held l b m line line' bodies answers progress going was_open still timeout closed come (inl (over, is)) = record {
    going = going;
    still_going = ap (λ (p : ReconnectState D L). p.trouble) is ∙ still;
    reconnect_timeout = ap (λ (p : ReconnectState D L). p.reconnect_timeout) is ∙ timeout;
    line = line;
    was_open = was_open;
    line' = line';
    progress = progress;
    come = subst (λ (e : D). streams l.dialer line bodies answers progress e line') (sym (ap (λ (p : ReconnectState D L). p.dialer) is)) come;
    held = inl (over, ap (λ (p : ReconnectState D L). p.line) is);
  }
  held l b m line line' bodies answers progress going was_open still timeout closed come (inr (more, is)) = record {
    going = going;
    still_going = ap (λ (p : ReconnectState D L). p.trouble) is ∙ still;
    reconnect_timeout = ap (λ (p : ReconnectState D L). p.reconnect_timeout) is ∙ timeout;
    line = line;
    was_open = was_open;
    line' = line';
    progress = progress;
    come = subst (λ (e : D). streams l.dialer line bodies answers progress e line') (sym (ap (λ (p : ReconnectState D L). p.dialer) is)) come;
    held = inr (more, ap (λ (p : ReconnectState D L). p.line) is ∙ closed, ap (λ (p : ReconnectState D L). p.awaited) is);
  }

  -- The link `l` becomes `k` when its connection is taken out, and `m` when the batch is begun.
  pub begins : (l k m : ReconnectState D L) (e : D) (line line' : L) (bodies : List (List ℕ)) (progress : Progress) → l.line ≡ Some line → l.trouble ≡ None → k ≡ record l { line = None }
      → streams k.dialer line bodies [] progress e line' → HoldsBegun line' progress (record k { dialer = e }) m → LinkStreams streams l bodies [] m
  begins l k m e line line' bodies progress was_open going is come holds =
      held l (record k { dialer = e }) m line line' bodies [] progress going was_open (ap (λ (p : ReconnectState D L). p.trouble) is ∙ going) (ap (λ (p : ReconnectState D L). p.reconnect_timeout) is)
      (ap (λ (p : ReconnectState D L). p.line) is) (subst (λ (d : D). streams d line bodies [] progress e line') (ap (λ (p : ReconnectState D L). p.dialer) is) come) holds

  -- a try over the connection that was taken out, without answers for the caller
  once : (l m : ReconnectState D L) (line line' : L) (bodies : List (List ℕ)) (trouble : Trouble) (exchanges : List Exchange) → l.line ≡ Some line → l.trouble ≡ None
      → kind.carries l.dialer line bodies (Err trouble) exchanges m.dialer line' → m.line ≡ None → m.trouble ≡ None → m.reconnect_timeout ≡ l.reconnect_timeout
      → LinkBatch kind learns l bodies (Err (fault_of trouble)) exchanges m
  once l m line line' bodies trouble exchanges was_open going called closed still timeout = inl (inr (record {
    going = going;
    line = line;
    was_open = was_open;
    came = Err trouble;
    line' = line';
    called = called;
    after = closed;
    says = refl;
    still_going = still;
    reconnect_timeout = timeout;
  }))

  pub begins_not : (l k : ReconnectState D L) (e : D) (line line' : L) (bodies : List (List ℕ)) (trouble : Trouble) (exchanges : List Exchange) → l.line ≡ Some line → l.trouble ≡ None
      → k ≡ record l { line = None } → kind.carries k.dialer line bodies (Err trouble) exchanges e line' → LinkBatch kind learns l bodies (Err (fault_of trouble)) exchanges (record k { dialer = e })
  begins_not l k e line line' bodies trouble exchanges was_open going is called =
      once l (record k { dialer = e }) line line' bodies trouble exchanges was_open going
      (subst (λ (d : D). kind.carries d line bodies (Err trouble) exchanges e line') (ap (λ (p : ReconnectState D L). p.dialer) is) called)
      (ap (λ (p : ReconnectState D L). p.line) is) (ap (λ (p : ReconnectState D L). p.trouble) is ∙ going) (ap (λ (p : ReconnectState D L). p.reconnect_timeout) is)

  -- The link `k` awaits the next answer of a batch, which is taken out with its connection. So it becomes `n`, and its dialer `e`.
  module _ (counts : CountsAnswers streams) (k n : ReconnectState D L) (line : L) (progress : Progress) (held_here : k.awaited ≡ Some (Begun (record { line = line; progress = progress }))) (is : n ≡ record k { awaited = None })
      (body : List ℕ) (e : D) (line' : L) (progress' : Progress) where
    same_begun : (x y : BegunBatch L) → Some (Begun x) ≡ Some (Begun y) → x ≡ y
    same_begun x y same = cc

    -- what the link has, it has of this batch
    of_batch : (l : ReconnectState D L) (bodies answers rest : List (List ℕ)) → (s : LinkStreams streams l bodies answers k) → drop (length answers) bodies ≡ body ∷ rest
        → streams l.dialer s.line bodies answers progress n.dialer line × (k.line ≡ None)
    of_batch l bodies answers rest s next =
        elim s.held [
          | inl over ↦
              absurd (omega (arith, over.0, counts l.dialer k.dialer s.line s.line' bodies answers s.progress s.come, next_fits bodies answers rest body [] next, length-append answers ([] ∷ [])))
          | inr more ↦
              let same : record { line = s.line'; progress = s.progress } ≡ record { line = line; progress = progress } = same_begun _ _ (sym more.2 ∙ held_here) in (
                subst (λ (d : D). streams l.dialer s.line bodies answers progress d line) (sym (ap (λ (p : ReconnectState D L). p.dialer) is))
                    (subst (λ (b : BegunBatch L). streams l.dialer s.line bodies answers b.progress k.dialer b.line) same s.come),
                more.1,
              )
        ]

    pub gives : (m : ReconnectState D L) (answer : Vec ℕ) → GivesOver kind.carries streams n.dialer line progress body (Ok answer) e line' progress' → HoldsBegun line' progress' (record n { dialer = e }) m
        → (l : ReconnectState D L) (bodies answers rest : List (List ℕ)) → LinkStreams streams l bodies answers k → drop (length answers) bodies ≡ body ∷ rest
        → LinkStreams streams l bodies (answers ++ answer.items ∷ []) m
    gives m answer given holds l bodies answers rest s next =
        let here = of_batch l bodies answers rest s next in
        held l (record n { dialer = e }) m s.line line' bodies (answers ++ answer.items ∷ []) progress' s.going s.was_open (ap (λ (p : ReconnectState D L). p.trouble) is ∙ s.still_going)
        (ap (λ (p : ReconnectState D L). p.reconnect_timeout) is ∙ s.reconnect_timeout) (ap (λ (p : ReconnectState D L). p.line) is ∙ here.1) (given l.dialer s.line bodies answers rest here.0 next) holds

    pub breaks : (trouble : Trouble) → GivesOver kind.carries streams n.dialer line progress body (Err trouble) e line' progress'
        → (l : ReconnectState D L) (bodies answers rest : List (List ℕ)) → LinkStreams streams l bodies answers k → drop (length answers) bodies ≡ body ∷ rest
        → (exchanges : List Exchange) × LinkBatch kind learns l bodies (Err (fault_of trouble)) exchanges (record n { dialer = e }) × BreaksOff bodies answers exchanges
    breaks trouble given l bodies answers rest s next =
        let here = of_batch l bodies answers rest s next in
        let broke = given l.dialer s.line bodies answers rest here.0 next in (
          broke.0,
          once l (record n { dialer = e }) s.line line' bodies trouble broke.0 s.was_open s.going broke.1 (ap (λ (p : ReconnectState D L). p.line) is ∙ here.1)
              (ap (λ (p : ReconnectState D L). p.trouble) is ∙ s.still_going) (ap (λ (p : ReconnectState D L). p.reconnect_timeout) is ∙ s.reconnect_timeout),
          broke.2,
        )
