use Rattle.std.proofs.Common.{◌≡◌, take}
use Rattle.oram_redo.specs.Batch.{patches_of}
use Rattle.oram_redo.specs.Log.{entries}
use Rattle.oram_redo.proofs.batch.body_of.Given as goal

abbrev pub invariant-loop-patch : goal.invariant-loop-patch
invariant-loop-patch l = l.body.items ≡ entries (patches_of (take l.patch-index l.batch))
