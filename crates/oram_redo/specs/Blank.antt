-- Where a file of the system holds only zeros, as far as the calls on it tell.
use Rattle.std.specs.Prelude.{◌≡◌, ◌⊎◌, ◌≤◌, ℕ, ◌+◌, List, [], ◌∷◌, length}
use Rattle.oram_redo.specs.Note.{Call}
use Rattle.oram_redo.specs.declared.file_pair.FileKind.{FileKind}

-- From this place on a file holds only zeros, or it has ended: its length was asked for, and no later write reached past the place.
abbrev pub IsBlankFrom : FileKind → ℕ → List Call → Type 0
IsBlankFrom file at [] = ⊥
IsBlankFrom file at (call ∷ calls) =
    ((call.kind ≡ 4) × (call.file ≡ file) × (call.at ≤ at))
    ⊎ ((call.kind ≡ 1 → call.file ≡ file → call.at + length call.bytes ≤ at) × IsBlankFrom file at calls)
