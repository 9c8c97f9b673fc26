use Rattle.std.proofs.Common.{◌≡◌, ◌++◌, List, sym, subst}
use Rattle.oram_link_laws.specs.Runs.{Exchange}
use Rattle.oram_rounds.specs.Arrivals.{AreArriving, Awaited}
use Rattle.oram_rounds.specs.Rounds.{Round}
use Rattle.oram_rounds.proofs.Arriving.{none_more}
use Rattle.oram_rounds.proofs.round_link.RoundLink.answers.Goals as goal
use Rattle.oram_rounds.proofs.round_link.RoundLink.answers.Goals.{then-is_next, else-is_next}

pub returns-clause-arriving : goal.returns-clause-arriving
returns-clause-arriving g c = λ l fetches put k.
    let Arrive : Awaited → Round _ → Type 0 = λ a m. (more : List Exchange) × AreArriving g.B.BatchLink.batches g.B.BatchLink.streams l fetches (put ++ more) a m
    × (m ≡ record c.args.self.now { inner = m.inner; ahead = c.args.self.now.ahead ++ more }) in
    elim c.if-is_next.branch [
      | then-is_next w ↦
          let one = w.receive.ensures.arriving l fetches put (c.is_next.ensures w.if-is_next.true) k in
          subst (λ (m : Round _). Arrive c.if-is_next.arrivals m) (sym w.self-is) (subst (λ (a : Awaited). Arrive a w.receive.new.self) (sym w.arrivals-is) one)
      | else-is_next w ↦
          let none = none_more g.B.BatchLink.batches g.B.BatchLink.streams l fetches put c.args.arrivals.now c.args.self.now k in
          subst (λ (m : Round _). Arrive c.if-is_next.arrivals m) (sym w.self-is) (subst (λ (a : Awaited). Arrive a c.args.self.now) (sym w.arrivals-is) none)
    ]
