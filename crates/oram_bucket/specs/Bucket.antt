-- Buckets, and how bytes spell them.
use Rattle.std.specs.Prelude.{◌≡◌, ℕ, ◌+◌, ◌-◌, ◌*◌, ◌^◌, ◌<◌, ◌≤◌, List, ◌++◌, length, All, replicate}
use Rattle.std.specs.List.{flat_map}
use Rattle.std.specs.Int.{w32, to_be_bytes}
use Rattle.oram_geometry.specs.declared.Sizes.{Sizes}
use Rattle.oram_geometry.specs.Sizes.{blocks_in, depth_of}
use Rattle.oram_bucket.specs.Cell.{Cell, IsRising}

-- the block can lie in tree i
pub record IsBlockOf (d : Sizes) (i : ℕ) (c : Cell) : Type 0 where
  pub address_in : c.address < blocks_in d i
  pub leaf_in : c.leaf < 2 ^ depth_of d i
  pub whole : length c.content ≡ d.block_bytes

-- the blocks can lie in one bucket of tree i, in this order
pub record IsBucketOf (d : Sizes) (i : ℕ) (cells : List Cell) : Type 0 where
  pub within : length cells ≤ d.slots
  pub rising : IsRising cells
  pub blocks : All (IsBlockOf d i) cells

-- the number of bytes of a slot: two numbers of four bytes, and a block
abbrev pub slot_len : Sizes → ℕ
slot_len d = 8 + d.block_bytes

-- the bytes of a slot with a block; in a dummy, which has none, all bytes are 0
abbrev pub slot_of : Cell → List ℕ
slot_of c = to_be_bytes w32 (c.address + 1) ++ to_be_bytes w32 c.leaf ++ c.content

-- the bytes of a bucket: the blocks' slots, then dummies
unfoldable pub spelling : Sizes → List Cell → List ℕ
spelling d cells = flat_map slot_of cells ++ replicate ((d.slots - length cells) * slot_len d) 0

-- the bytes are the spelling of these blocks as a bucket of tree i
pub record IsSpelling (d : Sizes) (i : ℕ) (cells : List Cell) (bytes : List ℕ) : Type 0 where
  pub bucket : IsBucketOf d i cells
  pub spelled : bytes ≡ spelling d cells

-- the bytes are the spelling of some bucket of tree i
abbrev pub HasSpelling : Sizes → ℕ → List ℕ → Type 0
HasSpelling d i bytes = (cells : List Cell) × IsSpelling d i cells bytes
