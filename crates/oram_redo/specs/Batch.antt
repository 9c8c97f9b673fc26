-- A batch of the program, as the patches that the definitions speak of.
use Rattle.std.specs.Prelude.{List, map}
use Rattle.oram_redo.specs.Log as spec
use Rattle.oram_redo.specs.declared.batch.Patch.{Patch}

abbrev pub patch_of : Patch → spec.Patch
patch_of patch = (patch.at, patch.bytes.now)

abbrev pub patches_of : List Patch → List spec.Patch
patches_of batch = map patch_of batch
