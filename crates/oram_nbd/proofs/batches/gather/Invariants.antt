use Rattle.std.proofs.Common.{◌≤◌, length}
use Rattle.oram_nbd.proofs.Gathered.{Collected}
use Rattle.oram_nbd.proofs.batches.gather.Given as goal

abbrev pub invariant-loop-number : goal.invariant-loop-number
invariant-loop-number g l = record {
  few : length l.batch.requests.items ≤ l._number;
  so_far : Collected l.sizes.size l.batch.requests.items l.batch.operations.items (g.R.Read.remaining l.fn.reader) (g.R.Read.remaining l.reader);
}
