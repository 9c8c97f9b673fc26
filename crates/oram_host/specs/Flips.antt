-- Flipping the lowest bit of one byte of a stored record.
use Rattle.std.specs.Prelude.{◌≡◌, ℕ, ◌<◌, ◌≤◌, List, length, slice_index, slice_set, bit_xor, Some}
use Rattle.oram_host.specs.Answers.{IsPut}
use Rattle.oram_host.specs.Host.{Host, Kept, record_of, tree_at}
use Rattle.oram_host.specs.Path.{PutsRecord}

abbrev pub flipped : List ℕ → ℕ → List ℕ
flipped bytes offset = slice_set bytes offset (bit_xor (slice_index bytes offset) 1)

-- the record of a node has a byte at `offset`
abbrev pub HasByte : Kept → ℕ → ℕ → Type 0
HasByte kept node offset = (bytes : List ℕ) × (record_of kept node ≡ Some bytes) × (offset < length bytes)

abbrev pub LacksByte : Kept → ℕ → ℕ → Type 0
LacksByte kept node offset = (bytes : List ℕ) → record_of kept node ≡ Some bytes → length bytes ≤ offset

-- one byte of a node's record was flipped, and nothing else in the tree changed
abbrev pub FlipsByte : Kept → ℕ → ℕ → Kept → Type 0
FlipsByte old node offset new = (bytes : List ℕ) × (record_of old node ≡ Some bytes) × (offset < length bytes)
    × PutsRecord old node (flipped bytes offset) new

-- a byte of a host's record was flipped, and nothing else changed
pub record IsFlipped (old : Host) (tree node offset : ℕ) (new : Host) : Type 0 where
  pub kept : Kept
  pub bytes : List ℕ
  pub shaped : tree_at old tree ≡ Some kept
  pub stored : record_of kept node ≡ Some bytes
  pub within : offset < length bytes
  pub put : IsPut old tree node (flipped bytes offset) new

-- the host has no such byte
abbrev pub IsByteless : Host → ℕ → ℕ → ℕ → Type 0
IsByteless host tree node offset = (kept : Kept) → tree_at host tree ≡ Some kept → LacksByte kept node offset
