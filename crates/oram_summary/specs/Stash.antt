-- The blocks of a stash, and their text.
use Rattle.std.specs.Prelude.{◌≡◌, ℕ, ◌<◌, ◌^◌, List, length, All}
use Rattle.oram_geometry.specs.declared.Sizes.{Sizes}
use Rattle.oram_geometry.specs.Sizes.{blocks_in, depth_of}
use Rattle.oram_bucket.specs.Bucket.{IsBlockOf}
use Rattle.oram_bucket.specs.Cell.{Cell, IsRising}
use Rattle.oram_summary.specs.Text.{stash_text}

-- the address and the leaf of a block fit their four bytes
pub record HasNumbers (block : Cell) : Type 0 where
  pub address : block.address < 2 ^ 32
  pub leaf : block.leaf < 2 ^ 32

-- the address and the leaf of a block are of tree 0
pub record LiesIn (d : Sizes) (block : Cell) : Type 0 where
  pub address_in : block.address < blocks_in d 0
  pub leaf_in : block.leaf < 2 ^ depth_of d 0

-- so many blocks can be the stash of tree 0, and the bytes are their text
pub record IsStash (d : Sizes) (count : ℕ) (stash : List Cell) (bytes : List ℕ) : Type 0 where
  pub counted : length stash ≡ count
  pub rising : IsRising stash
  pub blocks : All (IsBlockOf d 0) stash
  pub text : bytes ≡ stash_text d.block_bytes stash
