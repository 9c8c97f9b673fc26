-- What a few calls on a pair, one after the other, may leave.
use Rattle.std.specs.Prelude.{ℕ, List}
use Rattle.oram_redo.specs.FilePair.{Contents, Torn}
use Rattle.oram_redo.specs.Log.{Patch, Smeared}
use Rattle.oram_redo.specs.declared.file_pair.FileKind.{FileKind}

-- a crash leaves what an earlier one might have left, with any bytes in one range
abbrev pub Tears : FileKind → ℕ → ℕ → (Contents → Type 0) → Contents → Type 0
Tears file at n before c = (d : Contents) × before d × Torn file at n d c

-- a crash leaves what an earlier one might have left, with any bytes in the places of the patches
abbrev pub Smears : List Patch → (Contents → Type 0) → Contents → Type 0
Smears patches before c = (d : Contents) × before d × Smeared patches d c
