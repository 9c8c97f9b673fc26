use Rattle.std.proofs.Common.{◌≡◌, ◌++◌, List, false, sym, ap, ◌∙◌, subst, append_assoc}
use Rattle.std.specs.List.{AllByRecursion}
use Rattle.oram_geometry.specs.declared.Sizes.{Sizes}
use Rattle.oram_link_laws.specs.Runs.{Exchange}
use Rattle.oram_rounds.specs.Arrivals.{AreArriving, Awaited}
use Rattle.oram_rounds.specs.PathMessages.{IsPathFetch}
use Rattle.oram_rounds.specs.Rounds.{Round}
use Rattle.oram_rounds.proofs.Arriving.{all_behind, put_twice}
use Rattle.oram_rounds.proofs.round_link.RoundLink.receive_all.Goals as goal

pub loop-arrivals-preserved : goal.loop-arrivals-preserved
loop-arrivals-preserved g c =
    let now = c.loop-arrivals in
    let whole : now.arrivals.broken ≡ false = ap (λ (w : Awaited). w.broken) (sym c.arrivals.view_is) ∙ c.loop-arrivals-test.true in
    let left = subst (AllByRecursion (IsPathFetch now.self.device)) (sym c.receive.ensures.due) (all_behind (IsPathFetch now.self.device) now.arrivals.due now.invariant.paths) in
    record {
      same = c.receive.ensures.same ∙ ap (λ (r : Round _). let q : Round _ = record r { inner = c.receive.new.self.inner; ahead = c.receive.new.self.ahead } in q) now.invariant.same;
      paths = subst (λ (d : Sizes). AllByRecursion (IsPathFetch d) c.receive.new.arrivals.due) (sym (ap (λ (r : Round _). r.device) c.receive.ensures.same)) left;
      arriving = λ r fetches put k.
          let before = now.invariant.arriving r fetches put k in
          let one = c.receive.ensures.arriving r fetches (put ++ before.0) whole before.1 in (
            before.0 ++ one.0,
            subst (λ (es : List Exchange). AreArriving g.B.BatchLink.batches g.B.BatchLink.streams r fetches es c.receive.new.arrivals c.receive.new.self) (append_assoc put before.0 one.0) one.1,
            put_twice c.args.self.now now.self c.receive.new.self before.0 one.0 before.2 one.2,
          );
    }
