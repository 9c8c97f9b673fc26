-- The text of a summary. All numbers are big-endian.
use Rattle.std.specs.Prelude.{◌≡◌, ℕ, ◌+◌, ◌-◌, ◌*◌, List, [], ◌∷◌, ◌++◌, length, replicate, slice_index, slice_range}
use Rattle.std.specs.Int.{w32, w64, to_be_bytes, from_be_bytes}
use Rattle.std.specs.List.{flat_map}
use Rattle.oram_geometry.specs.declared.Sizes.{Sizes}
use Rattle.oram_bucket.specs.Cell.{Cell}
use Rattle.oram_summary.specs.declared.summary.TheConstants.{MOST_BLOCKS, VERSION}
use Rattle.oram_summary.specs.Contents.{Contents, IsSummary, sealer_number}

-- the numbers of a summary, which have eight bytes each
abbrev pub numbers_of : Contents → List ℕ
numbers_of c =
    VERSION ∷ sealer_number c.sealer ∷ c.device.blocks ∷ c.device.block_bytes ∷ c.device.slots ∷ c.device.top ∷ c.device.lifetime ∷ c.device.leaf_load
    ∷ c.near_levels ∷ c.time ∷ c.number ∷ c.next_ticket ∷ c.next_nonce ∷ length c.stash ∷ []

-- a block of the stash: its address and its leaf, in four bytes each, and its data
abbrev pub block_text : Cell → List ℕ
block_text block = to_be_bytes w32 block.address ++ to_be_bytes w32 block.leaf ++ block.content

-- the blocks of the stash, with zeros behind them in the place of those that would still have room
abbrev pub stash_text : ℕ → List Cell → List ℕ
stash_text block_bytes stash = flat_map block_text stash ++ replicate ((MOST_BLOCKS - length stash) * (8 + block_bytes)) 0

-- numbers, a root digest, and a stash of blocks with so many bytes
abbrev pub parts_text : List ℕ → List ℕ → ℕ → List Cell → List ℕ
parts_text numbers root block_bytes stash = flat_map (to_be_bytes w64) numbers ++ root ++ stash_text block_bytes stash

-- the text of a summary
unfoldable pub text_of : Contents → List ℕ
text_of c = parts_text (numbers_of c) c.root c.device.block_bytes c.stash

-- how long it is, for a device with blocks of so many bytes
abbrev pub text_len_of : ℕ → ℕ
text_len_of block_bytes = 144 + MOST_BLOCKS * (8 + block_bytes)

-- the bytes are the text of this summary
pub record IsTextOf (bytes : List ℕ) (c : Contents) : Type 0 where
  pub summary : IsSummary c
  pub text : bytes ≡ text_of c

-- the bytes begin with the version
abbrev pub HasVersion : List ℕ → Type 0
HasVersion bytes = (rest : List ℕ) × (bytes ≡ to_be_bytes w64 VERSION ++ rest)

-- how many bytes the text says that a block has
abbrev pub block_bytes_in : List ℕ → ℕ
block_bytes_in bytes = from_be_bytes w64 (slice_range bytes 24 32)

-- the text is as long as the summaries of a device with blocks of so many bytes
abbrev pub HasLength : List ℕ → Type 0
HasLength bytes = length bytes ≡ text_len_of (block_bytes_in bytes)

-- the sizes of the device among the numbers of a text
abbrev pub sizes_in : List ℕ → Sizes
sizes_in numbers = record {
  blocks = slice_index numbers 2;
  block_bytes = slice_index numbers 3;
  slots = slice_index numbers 4;
  top = slice_index numbers 5;
  lifetime = slice_index numbers 6;
  leaf_load = slice_index numbers 7;
}

-- a summary has these numbers, and behind them these bytes
pub record IsBehindVersion (head rest : List ℕ) (c : Contents) : Type 0 where
  pub summary : IsSummary c
  pub numbers : head ≡ numbers_of c
  pub bytes : rest ≡ c.root ++ stash_text c.device.block_bytes c.stash
