use Rattle.std.proofs.Common.{List}
use Rattle.std.specs.List.{FoldsTo}
use Rattle.oram_semantics.specs.Run.{Shown}
use Rattle.oramsim.specs.Script.{Running, IsDrained}
use Rattle.oramsim.specs.Correspondence.{RunsOn, IsFaithful, IsWholeMachine, IsAtRun, still_wanted}
use Rattle.oramsim.proofs.machine.Machine.drain.Given as goal

abbrev pub invariant-loop-alloc : goal.invariant-loop-alloc
invariant-loop-alloc g l = record {
  whole : IsWholeMachine l.self;
  so_far : (r : Running) → IsAtRun r l.fn.self → (xs : List Shown) × (later : Running) × FoldsTo IsDrained r xs later
      × RunsOn r later l.self (g.W.Write.contents l.fn.writer) (g.W.Write.contents l.writer) × (IsFaithful r l.fn.self.core.state → IsFaithful later l.self.core.state);
}

abbrev pub decreases-loop-alloc : goal.decreases-loop-alloc
decreases-loop-alloc g l = still_wanted l.self
