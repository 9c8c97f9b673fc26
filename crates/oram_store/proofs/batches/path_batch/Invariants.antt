use Rattle.std.proofs.Common.{◌≡◌, List, ℕ}
use Rattle.oram_layout.specs.Changes.{level_patches}
use Rattle.oram_layout.specs.Limits.{levels_from}
use Rattle.oram_layout.specs.Trees.{sizes_of}
use Rattle.oram_redo.specs.Batch.{patches_of}
use Rattle.oram_store.specs.Batches.{HoldsCells}
use Rattle.oram_store.proofs.batches.path_batch.Given as goal

abbrev pub invariant-loop-index : goal.invariant-loop-index
invariant-loop-index l = (records : List ℕ) → HoldsCells l.cells l.tree.shape.record_len records (levels_from (sizes_of l.tree.shape) l.first) → patches_of l.batch.items ≡ level_patches l.tree l.leaf l.first records 0 l.index
