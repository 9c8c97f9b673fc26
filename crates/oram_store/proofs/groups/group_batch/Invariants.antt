use Rattle.std.proofs.Common.{◌≡◌, take}
use Rattle.oram_redo.specs.Batch.{patches_of}
use Rattle.oram_store.specs.Groups.{group_patches}
use Rattle.oram_store.proofs.groups.group_batch.Given as goal

abbrev pub invariant-loop-index : goal.invariant-loop-index
invariant-loop-index l = patches_of l.batch.items ≡ group_patches (take l.index l.changes)
