use Rattle.std.proofs.Common.{◌*◌}
use Rattle.oram_kept.specs.Text.{table_bytes}
use Rattle.oram_kept.proofs.ReadPages.{AreRead}
use Rattle.oram_kept.proofs.reading.table_in.Given as goal

abbrev pub invariant-loop-index : goal.invariant-loop-index
invariant-loop-index l = AreRead l.pages (4 * l.count) l.index (table_bytes l.table.items)
