use Rattle.std.proofs.Common.{◌≡◌, ◌+◌, ◌*◌, length}
use Rattle.oram_store.specs.Batches.{HoldsCells}
use Rattle.oram_store.proofs.batches.cells_of.Given as goal

abbrev pub invariant-loop-level : goal.invariant-loop-level
invariant-loop-level l = record {
  whole : length l.cells.items ≡ l.level * (l.tree.shape.record_len + 1);
  held : HoldsCells l.cells.items l.tree.shape.record_len l.records l.level;
}
