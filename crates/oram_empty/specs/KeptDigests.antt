-- The digests that a client keeps of a formatting: those that end the records of the upper nodes, which are the nodes more than three
-- levels above the leaves.
use Rattle.std.specs.Prelude.{◌≡◌, ℕ, zero, suc, ◌+◌, ◌-◌, ◌*◌, ◌^◌, ◌<◌, ◌≤◌, List, ◌++◌, length, take, drop, nat_lt, if◌then◌else◌}
use Rattle.oram_geometry.specs.declared.Sizes.{Sizes}
use Rattle.oram_geometry.specs.Sizes.{trees_of, depth_of, record_len_of}
use Rattle.oram_geometry.specs.Path.{node_on}
use Rattle.oram_bucket.specs.Cipher.{Cipher}
use Rattle.oram_tree.specs.Content.{node_count}
use Rattle.oram_semantics.specs.Nonces.{formatted_below}
use Rattle.oram_empty.specs.EmptyRecords.{begins_at, empty_record, joined, seal_empty}

-- the number of upper nodes of a tree of this depth; they are the first ones
abbrev pub upper_count : ℕ → ℕ
upper_count depth = 2 ^ (depth - 3) - 1

-- the number of upper nodes of the trees before tree n
unfoldable pub upper_below : Sizes → ℕ → ℕ
upper_below d zero = 0
upper_below d (suc n) = upper_below d n + upper_count (depth_of d n)

-- the number of bytes of a device's digests: 64 for each upper node
abbrev pub digests_len : Sizes → ℕ
digests_len d = 64 * upper_below d (trees_of d)

-- piece number k of bytes that consist of pieces of `size` bytes
unfoldable pub piece : ℕ → List ℕ → ℕ → List ℕ
piece size bytes k = take size (drop (k * size) bytes)

-- the digests that the bytes have for the children of an upper node: the left child's, and then the right child's
abbrev pub children_in : Sizes → List ℕ → ℕ → ℕ → List ℕ
children_in d bytes tree node = piece 64 bytes (upper_below d tree + node)

-- the two digests that end a record
abbrev pub digests_part : List ℕ → List ℕ
digests_part r = drop (length r - 64) r

-- a device, and bytes in which its digests lie tree by tree and node by node
pub record Digests : Type 0 where
  pub device : Sizes
  pub bytes : List ℕ

-- the digests are those of the formatting: for each upper node, those that end the node's record
pub record AreOfFormatting (cipher : Cipher) (s : Digests) : Type 0 where
  pub each : (tree leaf level : ℕ) → tree < trees_of s.device → leaf < 2 ^ depth_of s.device tree → level + 3 < depth_of s.device tree
      → children_in s.device s.bytes tree (node_on (depth_of s.device tree) leaf level) ≡ digests_part (empty_record cipher s.device tree leaf level)

-- the record that the digests give for the upper node at this level of a leaf's path: the empty bucket, sealed under the node's nonce, and
-- the two digests that are kept for the node
abbrev pub upper_record : Cipher → Digests → ℕ → ℕ → ℕ → List ℕ
upper_record cipher s tree leaf level =
    let depth = depth_of s.device tree in
    seal_empty cipher s.device (begins_at (formatted_below s.device tree) depth leaf level + 2 * node_count (depth - (level + 1)))
    ++ children_in s.device s.bytes tree (node_on depth leaf level)

-- The record that a client makes for the node at this level of a leaf's path: for an upper node the one that the digests give, and for a node
-- below the upper ones that of the formatting.
abbrev pub made_record : Cipher → Digests → ℕ → ℕ → ℕ → List ℕ
made_record cipher s tree leaf level =
    if nat_lt (level + 3) (depth_of s.device tree) then upper_record cipher s tree leaf level else empty_record cipher s.device tree leaf level

-- the records that a client makes for a leaf's path, from this level on
abbrev pub made_path : Cipher → Digests → ℕ → ℕ → ℕ → List ℕ
made_path cipher s tree leaf first = joined (made_record cipher s tree leaf) first (depth_of s.device tree + 1 - first)

-- A client makes one record for each node, whichever leaf's path the node is on, and all these records have the same length.
pub record AreNodesRecords (cipher : Cipher) (s : Digests) : Type 0 where
  pub long : (tree leaf level : ℕ) → tree < trees_of s.device → leaf < 2 ^ depth_of s.device tree → level ≤ depth_of s.device tree
      → length (made_record cipher s tree leaf level) ≡ record_len_of s.device cipher.overhead
  pub one : (tree leaf other level : ℕ) → level ≤ depth_of s.device tree → node_on (depth_of s.device tree) leaf level ≡ node_on (depth_of s.device tree) other level
      → made_record cipher s tree leaf level ≡ made_record cipher s tree other level
