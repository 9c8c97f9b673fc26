use Rattle.std.proofs.Common.{◌-◌, ◌≤◌}
use Rattle.oram_nbd.specs.Streams.{IsSkip}
use Rattle.oram_nbd.proofs.streams.skip.Given as goal

abbrev pub invariant-loop-left : goal.invariant-loop-left
invariant-loop-left g l = record {
  within : l.left ≤ l.count;
  skipped : IsSkip (g.R.Read.remaining l.fn.reader) (g.R.Read.remaining l.reader) (l.count - l.left);
}

abbrev pub decreases-loop-left : goal.decreases-loop-left
decreases-loop-left g l = l.left
