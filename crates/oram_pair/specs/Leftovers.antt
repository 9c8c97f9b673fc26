-- What the making of a pair may have left at a name, if it was broken off.
use Rattle.std.specs.Prelude.{◌≡◌, ◌⊎◌, ◌<◌, ◌≤◌, ◌^◌, ℕ, List, All, length, slice_index}
use Rattle.oram_pair.specs.Fronts.{IsFront}
use Rattle.oram_pair.specs.Generations.{Says}
use Rattle.oram_pair.specs.declared.format.PairFormat.{PairFormat}
use Rattle.oram_pair.specs.declared.fronts.Identity.{Identity}
use Rattle.oram_redo.specs.declared.file_pair.FileKind.{FileKind}
use Rattle.oram_redo.specs.declared.file_pair.FileKind.TheVariants.{Records, Log}

-- The front says no generation after the first one. The log of a file that ever had an entry is of a later one.
abbrev pub IsOfFirst : List ℕ → Identity → List ℕ → Type 0
IsOfFirst letters identity bytes = (length bytes < 64) ⊎ ((number : ℕ) → Says letters identity bytes number → number ≤ 1)

-- The first bytes are the front of a new file with these letters.
abbrev pub HasNewFront : List ℕ → List ℕ → Type 0
HasNewFront letters bytes = (identity : Identity) × IsFront letters identity bytes × IsOfFirst letters identity bytes

-- The first gate of a log isn't there yet, or not written yet, or it is shut.
abbrev pub HasNoEntry : ℕ → List ℕ → Type 0
HasNoEntry gate_at bytes = (length bytes ≤ gate_at) ⊎ (slice_index bytes gate_at ≡ 0) ⊎ (slice_index bytes gate_at ≡ 15)

-- A new file begins so. The file of records may have been filled; a filling leaves the log without entries.
abbrev pub IsNew : FileKind → PairFormat → List ℕ → Type 0
IsNew Records format bytes = HasNewFront format.letters.records bytes
IsNew Log format bytes = HasNewFront format.letters.log bytes × HasNoEntry format.bounds.log_start bytes

-- The first bytes of a leftover: what a new file begins with; or zeros and nothing else, as where a log has only grown, or a loss of power has
-- left a file its length and none of its bytes.
abbrev pub IsLeftover : FileKind → PairFormat → List ℕ → Type 0
IsLeftover kind format bytes = IsNew kind format bytes ⊎ ((length bytes ≤ 2 ^ 20) × All (λ byte. byte ≡ 0) bytes)
