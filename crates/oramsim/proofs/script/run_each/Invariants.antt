use Rattle.std.proofs.Common.{IfSome}
use Rattle.oramsim.specs.Correspondence.{AreWhole}
use Rattle.oramsim.proofs.Progress.{Came}
use Rattle.oramsim.proofs.script.run_each.Given as goal

abbrev pub invariant-loop-number : goal.invariant-loop-number
invariant-loop-number g l = record {
  whole : AreWhole l.machine;
  came : IfSome (g.R.Read.remaining l.fn.reader) (λ input.
      Came input (g.R.Read.remaining l.reader) (g.W.Write.contents l.fn.writer) (g.W.Write.contents l.writer) l.number l.machine);
}
