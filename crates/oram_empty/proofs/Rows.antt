-- The definitions on worked examples.
use Rattle.std.proofs.Common.{◌≡◌, ◌*◌, true, false, [], ◌∷◌, ◌++◌, Some, refl, replicate}
use Rattle.sha2.specs.Sha256.{sha256}
use Rattle.oram_geometry.specs.declared.Sizes.{Sizes}
use Rattle.oram_geometry.specs.Sizes.{blocks_in, trees_of, depth_of, level_for}
use Rattle.oram_geometry.specs.Least.{least_from}
use Rattle.oram_geometry.specs.Path.{node_on}
use Rattle.oram_hash.specs.Record.{is_left_child, no_digest}
use Rattle.oram_bucket.specs.Cipher.{Cipher}
use Rattle.oram_bucket.specs.Bucket.{spelling}
use Rattle.oram_tree.specs.Subtree.{root_record}
use Rattle.oram_semantics.specs.Nonces.{formatted_below}
use Rattle.oram_empty.specs.EmptyRecords.{begins_at, empty_record, empty_path, joined}
use Rattle.oram_empty.specs.KeptDigests.{Digests, upper_count, upper_below, digests_len, made_record, piece, digests_part}
use Rattle.oram_empty.specs.Collecting.{is_near, is_upper, with_piece}

-- a cipher that puts the nonce before the plain bytes
abbrev telling : Cipher
telling = record { overhead = 1; sealing = λ nonce plain. nonce ∷ plain; opening = λ bytes. Some bytes }

-- eight blocks of 16 bytes, with a leaf for each: one tree of depth 3
abbrev small : Sizes
small = record { blocks = 8; block_bytes = 16; slots = 4; top = 8; lifetime = 100; leaf_load = 1 }

-- 128 blocks with a map of 32: two trees, of the depths 7 and 5
abbrev two : Sizes
two = record { blocks = 128; block_bytes = 16; slots = 4; top = 32; lifetime = 100; leaf_load = 1 }

-- the subtrees of the nodes 0, 2, 6 and 13, which have 15, 7, 3 and one node: node 13 is the eleventh to be put (`post_order`)
begins : (begins_at 0 3 6 0 ≡ 0) × (begins_at 0 3 6 1 ≡ 7) × (begins_at 0 3 6 2 ≡ 10) × (begins_at 0 3 6 3 ≡ 10)
unfolding begins_at node_on is_left_child
begins = (refl, refl, refl, refl)

-- a leaf's record, and that of its parent
leaf_is : empty_record telling small 0 6 3 ≡ 10 ∷ spelling small [] ++ no_digest ++ no_digest
unfolding begins_at node_on is_left_child root_record level_for least_from blocks_in formatted_below
leaf_is = refl

parent_is : empty_record telling small 0 6 2 ≡ 12 ∷ spelling small [] ++ sha256 (empty_record telling small 0 6 3) ++ sha256 (empty_record telling small 0 7 3)
unfolding begins_at node_on is_left_child root_record level_for least_from blocks_in formatted_below
parent_is = refl

path_is : empty_path telling small 0 6 2 ≡ empty_record telling small 0 6 2 ++ (empty_record telling small 0 6 3 ++ [])
unfolding joined level_for least_from blocks_in
path_is = refl

-- of a tree of depth 3 no digests are kept, of one of depth 4 those of the root's children, and of one of depth 7 those of 30 nodes
counts : (upper_count 0 ≡ 0) × (upper_count 2 ≡ 0) × (upper_count 3 ≡ 0) × (upper_count 4 ≡ 1) × (upper_count 7 ≡ 15)
counts = (refl, refl, refl, refl, refl)

lengths : (trees_of two ≡ 2) × (depth_of two 1 ≡ 5) × (upper_below two 1 ≡ 15) × (digests_len small ≡ 0) × (digests_len two ≡ 18 * 64)
unfolding trees_of level_for least_from blocks_in upper_below
lengths = (refl, refl, refl, refl, refl)

-- pieces of two bytes
pieces : (piece 2 (1 ∷ 2 ∷ 3 ∷ 4 ∷ 5 ∷ 6 ∷ []) 1 ≡ 3 ∷ 4 ∷ []) × (with_piece 2 (1 ∷ 2 ∷ 3 ∷ 4 ∷ 5 ∷ 6 ∷ []) 1 (7 ∷ 8 ∷ []) ≡ 1 ∷ 2 ∷ 7 ∷ 8 ∷ 5 ∷ 6 ∷ [])
unfolding piece
pieces = (refl, refl)

-- the record of a leaf ends with zeros
leaf_digests : digests_part (7 ∷ 8 ∷ no_digest ++ no_digest) ≡ no_digest ++ no_digest
leaf_digests = refl

-- the first leaf of the second tree is put behind the 255 nodes of the first
second_tree : empty_record telling two 1 0 5 ≡ 255 ∷ spelling two [] ++ no_digest ++ no_digest
unfolding begins_at node_on is_left_child root_record trees_of level_for least_from blocks_in formatted_below
second_tree = refl

-- which nodes are upper ones and which are near
uppers : (is_upper two 0 14 ≡ true) × (is_upper two 0 15 ≡ false) × (is_upper two 1 2 ≡ true) × (is_upper two 1 3 ≡ false) × (is_upper two 2 0 ≡ false)
unfolding trees_of level_for least_from blocks_in
uppers = (refl, refl, refl, refl, refl)

nears : (is_near 0 0 0 ≡ false) × (is_near 2 0 2 ≡ true) × (is_near 2 0 3 ≡ false) × (is_near 2 1 0 ≡ false)
nears = (refl, refl, refl, refl)

-- In a tree of depth 4 the root alone is an upper node: its record ends with the digests that are kept, whatever they are, and the records
-- below are those of the formatting.
abbrev four : Digests
four = record { device = record small { blocks = 16; top = 16 }; bytes = replicate 64 7 }

made_rows : (digests_part (made_record telling four 0 9 0) ≡ replicate 64 7) × (made_record telling four 0 9 1 ≡ empty_record telling four.device 0 9 1)
unfolding begins_at node_on is_left_child root_record level_for least_from blocks_in formatted_below upper_below piece spelling
made_rows = (refl, refl)
