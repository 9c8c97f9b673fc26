-- The sizes of a device and of its trees.
use Rattle.std.specs.Prelude.{◌≡◌, ℕ, zero, suc, ◌≤◌, ◌+◌, ◌-◌, ◌*◌, ◌/◌, ◌%◌, ◌^◌, ◌==◌, ◌&&◌, Bool, true, ◌||◌, min, if◌then◌else◌, nat_le, not, Option, Some, None, Result, Ok, Err}
use Rattle.std.specs.Int.{div_ceil}
use Rattle.oram_geometry.specs.Least.{least_from}
use Rattle.oram_geometry.specs.declared.Sizes.{Sizes}
use Rattle.oram_geometry.specs.declared.ShapeFault.{ShapeFault}
use Rattle.oram_geometry.specs.declared.ShapeFault.TheVariants.{Blocks, BlockBytes, Slots, Top, Lifetime, LeafLoad}

-- the number of entries of a map block, at four bytes each
abbrev pub fanout : Sizes → ℕ
fanout d = d.block_bytes / 4

-- the number of blocks of tree i; each block of tree i + 1 has `fanout d` entries, one for each block of tree i
unfoldable pub blocks_in : Sizes → ℕ → ℕ
blocks_in d zero = d.blocks
blocks_in d (suc i) = div_ceil (blocks_in d i) (fanout d)

-- whether the client's table has room for the entries of the last tree, if there are h trees
abbrev pub fits_table : Sizes → ℕ → Bool
fits_table d h = nat_le (blocks_in d (h - 1)) d.top

-- the number of trees: the least number, at least 1, for which the table has room for the last tree's entries
unfoldable pub trees_of : Sizes → ℕ
trees_of d = least_from (fits_table d) 1 13

-- the least level whose nodes have room for n blocks, at `load` blocks each
unfoldable pub level_for : ℕ → ℕ → ℕ
level_for load n = least_from (λ l. nat_le n (load * 2 ^ l)) 0 24

-- whether the leaves of a tree of depth l have room for the blocks of tree i, at `d.leaf_load` blocks each
abbrev pub has_leaves : Sizes → ℕ → ℕ → Bool
has_leaves d i l = nat_le (blocks_in d i) (d.leaf_load * 2 ^ l)

-- the depth of tree i: the least level whose nodes have room for the tree's blocks, at `d.leaf_load` blocks each
abbrev pub depth_of : Sizes → ℕ → ℕ
depth_of d i = level_for d.leaf_load (blocks_in d i)

-- the address in tree i of the block that leads to the device's block a
abbrev pub address_in : Sizes → ℕ → ℕ → ℕ
address_in d i a = a / fanout d ^ i

-- the leaf that a word names in tree i
abbrev pub leaf_of : Sizes → ℕ → ℕ → ℕ
leaf_of d i word = word % 2 ^ depth_of d i

-- the number of bytes of a bucket: each slot has an address, a leaf and a block
abbrev pub bucket_len : Sizes → ℕ
bucket_len d = d.slots * (8 + d.block_bytes)

-- the number of bytes of a record: a bucket, the overhead that sealing adds to it, and two digests
unfoldable pub record_len_of : Sizes → ℕ → ℕ
record_len_of d overhead = bucket_len d + overhead + 64

abbrev pub is_between : ℕ → ℕ → ℕ → Bool
is_between low high n = nat_le low n && nat_le n high

-- the greatest number of blocks of a tree with this leaf load: 2 ^ 24 leaves, as many as a tree can have, have room for them, and they
-- are at most 2 ^ 26
abbrev pub most_blocks : ℕ → ℕ
most_blocks load = min load 4 * 2 ^ 24

-- whether a tree with so many slots in a bucket has room for this leaf load: a leaf for each block always has; more blocks to a leaf
-- take four slots or more, and five slots for each four blocks
abbrev pub has_room : ℕ → ℕ → Bool
has_room slots load = load == 1 || (nat_le 4 slots && nat_le (4 * load) (5 * slots))

-- the first of the six numbers that is out of its range: first the leaf load, on which the ranges of the others depend, and last
-- whether the slots have room for it
abbrev pub range_fault : Sizes → Option ShapeFault
range_fault d =
    if not (is_between 1 8 d.leaf_load) then Some LeafLoad
    else if not (is_between 1 (most_blocks d.leaf_load) d.blocks) then Some Blocks
    else if not (is_between 16 4096 d.block_bytes && d.block_bytes % 4 == 0) then Some BlockBytes
    else if not (is_between 1 8 d.slots) then Some Slots
    else if not (is_between 1 (most_blocks d.leaf_load) d.top) then Some Top
    else if not (is_between 1 (2 ^ 40) d.lifetime) then Some Lifetime
    else if not (has_room d.slots d.leaf_load) then Some LeafLoad
    else None

abbrev pub device_unless : Sizes → Option ShapeFault → Result Sizes ShapeFault
device_unless d None = Ok d
device_unless d (Some fault) = Err fault

-- the device that the six numbers define, or the fault of the first one that is out of its range
abbrev pub device_of : Sizes → Result Sizes ShapeFault
device_of d = device_unless d (range_fault d)

-- the number by which messages and state files name a fault of a device's shape
abbrev pub fault_number : ShapeFault → ℕ
fault_number Blocks = 1
fault_number BlockBytes = 2
fault_number Slots = 3
fault_number Top = 4
fault_number Lifetime = 5
fault_number LeafLoad = 6

-- the ranges of a device's six numbers
pub record IsDevice (d : Sizes) : Type 0 where
  pub some_blocks : 1 ≤ d.blocks
  pub few_blocks : d.blocks ≤ most_blocks d.leaf_load
  pub some_bytes : 16 ≤ d.block_bytes
  pub few_bytes : d.block_bytes ≤ 4096
  pub whole_words : d.block_bytes % 4 ≡ 0
  pub some_slots : 1 ≤ d.slots
  pub few_slots : d.slots ≤ 8
  pub some_top : 1 ≤ d.top
  pub few_top : d.top ≤ most_blocks d.leaf_load
  pub some_lifetime : 1 ≤ d.lifetime
  pub few_lifetime : d.lifetime ≤ 2 ^ 40
  pub some_load : 1 ≤ d.leaf_load
  pub few_load : d.leaf_load ≤ 8
  pub room : has_room d.slots d.leaf_load ≡ true
