-- The change that an access makes to a block's data.
use Rattle.std.specs.Prelude.{◌≡◌, ℕ, ◌+◌, ◌-◌, ◌*◌, ◌^◌, ◌<◌, ◌≤◌, List, ◌++◌, length, take, drop}
use Rattle.std.specs.Int.{w32, to_be_bytes}
use Rattle.oram_geometry.specs.declared.Sizes.{Sizes}
use Rattle.oram_geometry.specs.Sizes.{depth_of, fanout}
use Rattle.oram_bucket.specs.Cell.{Cell}
use Rattle.oram_tree.specs.declared.edits.Edit.{Edit}
use Rattle.oram_tree.specs.declared.edits.Edit.TheVariants.{Keep, Replace, Entry}

-- the data of a map block with entry j changed; an entry has four bytes
unfoldable pub with_entry : List ℕ → ℕ → ℕ → List ℕ
with_entry bytes j value = take (4 * j) bytes ++ to_be_bytes w32 value ++ drop (4 * j + 4) bytes

-- a block's data after an edit
abbrev pub edited_content : Edit → List ℕ → List ℕ
edited_content Keep content = content
edited_content (Replace bytes) content = bytes.now
edited_content (Entry j value) content = with_entry content j value

-- a block after an access: with its new leaf, and its data after the edit
abbrev pub edited_block : ℕ → ℕ → Edit → List ℕ → Cell
edited_block address leaf edit before = record { address = address; leaf = leaf; content = edited_content edit before }

-- the edit suits a block of tree i; an entry belongs to a block of the tree below, and is its leaf plus one or 0
abbrev pub IsEditOf : Sizes → ℕ → Edit → Type 0
IsEditOf d i Keep = Unit {0}
IsEditOf d i (Replace bytes) = length bytes.now ≡ d.block_bytes
IsEditOf d i (Entry j value) = (1 ≤ i) × (j < fanout d) × (value ≤ 2 ^ depth_of d (i - 1))

-- a block of `len` bytes has room for the edit
abbrev pub HasRoomFor : ℕ → Edit → Type 0
HasRoomFor len Keep = Unit {0}
HasRoomFor len (Replace bytes) = length bytes.now ≡ len
HasRoomFor len (Entry j value) = 4 * j + 4 ≤ len
