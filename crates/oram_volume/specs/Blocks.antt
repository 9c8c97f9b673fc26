-- An array of blocks as an array of bytes.
use Rattle.std.specs.Prelude.{◌≡◌, ℕ, zero, suc, ◌<◌, List, [], ◌++◌, length}
use Rattle.oram_geometry.specs.declared.Sizes.{Sizes}

-- n blocks, one after the other, from the first one on
abbrev pub blocks_from : (ℕ → List ℕ) → ℕ → ℕ → List ℕ
blocks_from array first zero = []
blocks_from array first (suc n) = array first ++ blocks_from array (suc first) n

-- these are the bytes of the device's blocks, and each block has the device's length
pub record IsLaidOut (d : Sizes) (array : ℕ → List ℕ) (bytes : List ℕ) : Type 0 where
  pub long : (a : ℕ) → a < d.blocks → length (array a) ≡ d.block_bytes
  pub all : bytes ≡ blocks_from array 0 d.blocks
