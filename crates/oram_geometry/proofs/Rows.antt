-- Sizes of devices, computed.
use Rattle.std.proofs.Common.{◌≡◌, ℕ, ◌+◌, ◌^◌, refl, None, Some}
use Rattle.oram_geometry.specs.declared.Sizes.{Sizes}
use Rattle.oram_geometry.specs.Sizes.{blocks_in, trees_of, depth_of, level_for, address_in, leaf_of, range_fault}
use Rattle.oram_geometry.specs.Least.{least_from}
use Rattle.oram_geometry.specs.Path.{node_on}
use Rattle.oram_geometry.specs.declared.ShapeFault.TheVariants.{Blocks, BlockBytes, LeafLoad}

-- 64 blocks of 16 bytes, with four entries of the position map in the client's table
abbrev recursive : Sizes
recursive = record { blocks = 64; block_bytes = 16; slots = 4; top = 4; lifetime = 100; leaf_load = 1 }

three_trees : trees_of recursive ≡ 3
unfolding trees_of least_from blocks_in
three_trees = refl

depths : (depth_of recursive 0 ≡ 6) × (depth_of recursive 1 ≡ 4) × (depth_of recursive 2 ≡ 2)
unfolding level_for least_from blocks_in
depths = (refl, refl, refl)

map_blocks : (address_in recursive 1 37 ≡ 9) × (address_in recursive 2 37 ≡ 2) × (address_in recursive 1 38 ≡ 9)
map_blocks = (refl, refl, refl)

-- eight blocks, with every entry in the client's table
abbrev small : Sizes
small = record { blocks = 8; block_bytes = 16; slots = 4; top = 8; lifetime = 100; leaf_load = 1 }

one_tree : (trees_of small ≡ 1) × (depth_of small 0 ≡ 3)
unfolding trees_of level_for least_from blocks_in
one_tree = (refl, refl)

leaves : (leaf_of small 0 6 ≡ 6) × (leaf_of small 0 18446744073709551615 ≡ 7)
unfolding level_for least_from blocks_in
leaves = (refl, refl)

path_of_six : (node_on 3 6 0 ≡ 0) × (node_on 3 6 1 ≡ 2) × (node_on 3 6 2 ≡ 6) × (node_on 3 6 3 ≡ 13)
unfolding node_on
path_of_six = (refl, refl, refl, refl)

-- one block, whose tree is one bucket
abbrev single : Sizes
single = record { blocks = 1; block_bytes = 16; slots = 1; top = 1; lifetime = 10; leaf_load = 1 }

one_bucket : (trees_of single ≡ 1) × (depth_of single 0 ≡ 0)
unfolding trees_of level_for least_from blocks_in
one_bucket = (refl, refl)

no_fault : range_fault small ≡ None
no_fault = refl

odd_bytes : range_fault (record { blocks = 8; block_bytes = 18; slots = 0; top = 0; lifetime = 0; leaf_load = 1 }) ≡ Some BlockBytes
odd_bytes = refl

-- up to four blocks for each leaf: two levels fewer, and no tree has fewer levels than one
abbrev packed : Sizes
packed = record recursive { leaf_load = 4 }

packed_depths : (trees_of packed ≡ 3) × (depth_of packed 0 ≡ 4) × (depth_of packed 1 ≡ 2) × (depth_of packed 2 ≡ 0)
unfolding trees_of level_for least_from blocks_in
packed_depths = (refl, refl, refl, refl)

-- 21 leaves of three blocks are too few for 64 blocks, so there are 32
three_each : depth_of (record recursive { leaf_load = 3 }) 0 ≡ 5
unfolding level_for least_from blocks_in
three_each = refl

no_load : (range_fault (record small { leaf_load = 0 }) ≡ Some LeafLoad) × (range_fault (record small { leaf_load = 9 }) ≡ Some LeafLoad)
no_load = (refl, refl)

-- four slots have room for five blocks to a leaf, and eight for eight; fewer than four have room for one
loads_of_four : (range_fault (record small { leaf_load = 5 }) ≡ None) × (range_fault (record small { leaf_load = 6 }) ≡ Some LeafLoad)
loads_of_four = (refl, refl)

loads_of_others : (range_fault (record small { slots = 8; leaf_load = 8 }) ≡ None) × (range_fault (record small { slots = 3; leaf_load = 2 }) ≡ Some LeafLoad) × (range_fault (record small { slots = 1 }) ≡ None)
loads_of_others = (refl, refl, refl)

-- a disk of 256 GiB in blocks of 4 KiB has 2 ^ 26 of them, and takes a load of four or more
abbrev large : ℕ → Sizes
large load = record { blocks = 2 ^ 26; block_bytes = 4096; slots = 4; top = 2 ^ 26; lifetime = 100; leaf_load = load }

large_loads : (range_fault (large 3) ≡ Some Blocks) × (range_fault (large 4) ≡ None) × (range_fault (large 5) ≡ None)
large_loads = (refl, refl, refl)

one_more_block : range_fault (record (large 5) { blocks = 2 ^ 26 + 1 }) ≡ Some Blocks
one_more_block = refl

large_depths : (depth_of (large 4) 0 ≡ 24) × (depth_of (large 5) 0 ≡ 24)
unfolding level_for least_from blocks_in
large_depths = (refl, refl)
