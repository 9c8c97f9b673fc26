use Rattle.std.proofs.Common.{◌≡◌, take}
use Rattle.oram_layout.specs.Changes.{marks}
use Rattle.oram_redo.specs.Batch.{patches_of}
use Rattle.oram_store.proofs.batches.marks_of.Given as goal

abbrev pub invariant-loop-cell : goal.invariant-loop-cell
invariant-loop-cell l = patches_of l.batch.items ≡ marks (take l.cell-index l.cells)
