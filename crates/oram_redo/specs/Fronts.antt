-- What was written into the fronts of the system's files, by a list of these writes, the newest first.
use Rattle.std.specs.Prelude.{◌≡◌, ◌⊎◌, ℕ, false, true, List, [], ◌∷◌}
use Rattle.oram_redo.specs.FilePair.{Wrote}
use Rattle.oram_redo.specs.Length.{SaysLength}
use Rattle.oram_redo.specs.Note.{Call}
use Rattle.oram_redo.specs.Opened.{Opened}
use Rattle.oram_redo.specs.System.{seen_after}
use Rattle.oram_redo.specs.declared.file_pair.FileKind.{FileKind}
use Rattle.oram_redo.specs.declared.file_pair.FileKind.TheVariants.{Records, Log}
use Rattle.oram_redo.specs.declared.length.TheConstants.{LENGTH_AT}
use Rattle.oram_redo.specs.declared.system_files.SystemFiles.{SystemFiles}

abbrev pub front_writes_of : SystemFiles → List Call
front_writes_of files = files.fronts.calls

-- The writes since then have put these bytes into the front of a file, and nothing else into a front.
abbrev pub WroteFront : FileKind → ℕ → List ℕ → List Call → List Call → Type 0
WroteFront file at bytes old new = (first : Opened) → Wrote file at bytes (seen_after first old) (seen_after first new)

-- The last write failed, or the system wrote none of its bytes.
abbrev pub HasFailedLast : List Call → Type 0
HasFailedLast [] = ⊥
HasFailedLast (write ∷ writes) = (write.is_ok ≡ false) ⊎ (write.bytes ≡ [])

-- The note of a call that asked the system how long the records' file is. The answer was `len` bytes.
abbrev pub asked : ℕ → Call
asked len = record { kind = 4; file = Records; at = len; is_ok = true; bytes = [] }

-- The front of the records says the length that the system has just said.
pub record SaysLast (calls later old new : List Call) : Type 0 where
  pub len : ℕ
  pub asked : later ≡ asked len ∷ calls
  pub field : List ℕ
  pub says : SaysLength field len
  pub written : WroteFront Records LENGTH_AT field old new

-- Bytes were written into the front of a file, and the front of the records then says how long the file is; or the last write of that failed.
abbrev pub WroteWithLength : FileKind → ℕ → List ℕ → (calls later old new : List Call) → Type 0
WroteWithLength Log at bytes calls later old new = WroteFront Log at bytes old new
WroteWithLength Records at bytes calls later old new = (mid : List Call) × WroteFront Records at bytes old mid × (SaysLast calls later mid new ⊎ HasFailedLast new)
