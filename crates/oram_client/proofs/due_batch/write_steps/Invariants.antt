use Rattle.std.proofs.Common.{◌≡◌}
use Rattle.std.specs.Io.KnownBytes.{Keeps}
use Rattle.oram_client.specs.StreamBatches.{WritesOn}
use Rattle.oram_client.proofs.due_batch.write_steps.Given as goal

abbrev pub invariant-loop : goal.invariant-loop
invariant-loop g l = record {
  wrote : WritesOn (g.W.Write.contents l.initial.writer) (g.W.Write.contents l.writer) l.initial.due.unsent l.due.unsent;
  left : l.due.left ≡ l.initial.due.left;
  unread : Keeps (g.R.Read.remaining l.initial.reader) (g.R.Read.remaining l.reader);
}
