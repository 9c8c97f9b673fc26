use Rattle.std.proofs.Common.{◌≡◌, ◌++◌, List, ℕ, length}
use Rattle.std.specs.List.{AllByRecursion}
use Rattle.oram_link_laws.specs.Runs.{Exchange}
use Rattle.oram_rounds.specs.Arrivals.{AreArriving}
use Rattle.oram_rounds.specs.PathMessages.{IsPathFetch}
use Rattle.oram_rounds.specs.Rounds.{Round}
use Rattle.oram_rounds.proofs.round_link.RoundLink.receive_all.Given as goal

abbrev pub invariant-loop-arrivals : goal.invariant-loop-arrivals
invariant-loop-arrivals g l = record {
  same : l.self ≡ record l.fn.self { inner = l.self.inner; ahead = l.self.ahead };
  paths : AllByRecursion (IsPathFetch l.self.device) l.arrivals.due;
  arriving : (r : Round _) (fetches : List (List ℕ)) (put : List Exchange) → AreArriving g.B.BatchLink.batches g.B.BatchLink.streams r fetches put l.fn.arrivals l.fn.self
      → (more : List Exchange) × AreArriving g.B.BatchLink.batches g.B.BatchLink.streams r fetches (put ++ more) l.arrivals l.self
      × (l.self ≡ record l.fn.self { inner = l.self.inner; ahead = l.fn.self.ahead ++ more });
}

abbrev pub decreases-loop-arrivals : goal.decreases-loop-arrivals
decreases-loop-arrivals g l = length l.arrivals.due
