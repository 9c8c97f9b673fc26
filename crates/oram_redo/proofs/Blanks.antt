-- Where a file holds only zeros, it does behind that place too.
use Rattle.std.proofs.Common.{◌≤◌, inl, inr, ℕ, List, [], ◌∷◌, length, arith}
use Rattle.oram_redo.specs.Blank.{IsBlankFrom}
use Rattle.oram_redo.specs.Note.{Call}
use Rattle.oram_redo.specs.declared.file_pair.FileKind.{FileKind}

pub blank_behind : (file : FileKind) (at later : ℕ) (calls : List Call) → at ≤ later → IsBlankFrom file at calls → IsBlankFrom file later calls
blank_behind file at later [] low blank = blank
blank_behind file at later (call ∷ calls) low (inl length) = inl (length.0, length.1, omega (arith, low, length.2))
blank_behind file at later (call ∷ calls) low (inr rest) = inr ((λ write same. omega (arith, low, rest.0 write same)), blank_behind file at later calls low rest.1)
