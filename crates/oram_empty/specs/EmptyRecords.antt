-- The records that a formatting makes. They depend on the sealer, the device and the node alone.
use Rattle.std.specs.Prelude.{◌≡◌, ℕ, zero, suc, ◌+◌, ◌-◌, List, [], ◌++◌, length, if◌then◌else◌}
use Rattle.oram_geometry.specs.declared.Sizes.{Sizes}
use Rattle.oram_geometry.specs.Sizes.{depth_of}
use Rattle.oram_geometry.specs.Path.{node_on}
use Rattle.oram_hash.specs.Record.{is_left_child}
use Rattle.oram_bucket.specs.Cipher.{Cipher}
use Rattle.oram_bucket.specs.Bucket.{spelling}
use Rattle.oram_tree.specs.Content.{node_count}
use Rattle.oram_tree.specs.Subtree.{root_record}
use Rattle.oram_semantics.specs.Nonces.{formatted_below}

-- the bytes of an empty bucket that is sealed under this nonce
abbrev pub seal_empty : Cipher → Sizes → ℕ → List ℕ
seal_empty cipher d nonce = cipher.sealing nonce (spelling d [])

-- The nonce at which the subtree of a node begins, for the node at this level of a leaf's path, if the root's subtree begins at `base`. A
-- left child's subtree begins where that of its parent does, and a right child's behind that of its sibling.
unfoldable pub begins_at : ℕ → ℕ → ℕ → ℕ → ℕ
begins_at base depth leaf zero = base
begins_at base depth leaf (suc level) =
    begins_at base depth leaf level + (if is_left_child (node_on depth leaf (level + 1)) then 0 else node_count (depth - (level + 1)))

-- the record that a formatting makes for the node at this level of a leaf's path of a tree
abbrev pub empty_record : Cipher → Sizes → ℕ → ℕ → ℕ → List ℕ
empty_record cipher d tree leaf level =
    root_record (seal_empty cipher d) (depth_of d tree - level) (begins_at (formatted_below d tree) (depth_of d tree) leaf level)

-- the records of a path at `count` levels from this one on, one behind the other
unfoldable pub joined : (ℕ → List ℕ) → ℕ → ℕ → List ℕ
joined records level zero = []
joined records level (suc count) = records level ++ joined records (level + 1) count

-- the records that a formatting makes for a leaf's path, from this level on
abbrev pub empty_path : Cipher → Sizes → ℕ → ℕ → ℕ → List ℕ
empty_path cipher d tree leaf first = joined (empty_record cipher d tree leaf) first (depth_of d tree + 1 - first)

-- the new bytes are the old ones, and there may be more behind them
abbrev pub IsExtended : List ℕ → List ℕ → Type 0
IsExtended old new = (more : List ℕ) × (new ≡ old ++ more)

-- the new bytes are the old ones, and `count` bytes behind them
abbrev pub IsLonger : ℕ → List ℕ → List ℕ → Type 0
IsLonger count old new = (more : List ℕ) × (new ≡ old ++ more) × (length more ≡ count)
