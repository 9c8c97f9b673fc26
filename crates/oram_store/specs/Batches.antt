-- The bytes of a STORE's batch, and of a FETCH's answer.
use Rattle.std.specs.Prelude.{◌≡◌, ℕ, ◌+◌, ◌*◌, ◌<◌, ◌≤◌, List, ◌∷◌, ◌++◌, length, slice_range, Some, None}
use Rattle.oram_host.specs.Path.{node_on, record_at}
use Rattle.oram_redo.specs.Content.{Content}
use Rattle.oram_layout.specs.Records.{AreLevelsOf, Records, record_in}
use Rattle.oram_layout.specs.Trees.{sizes_of}
use Rattle.oram_layout.specs.declared.trees.Tree.{Tree}

-- the first `levels` records, each after a byte that is 1
abbrev pub HoldsCells : List ℕ → ℕ → List ℕ → ℕ → Type 0
HoldsCells cells record_len records levels =
    (level : ℕ) → level < levels → slice_range cells (level * (record_len + 1)) ((level + 1) * (record_len + 1)) ≡ 1 ∷ record_at record_len records level

-- the records of one tree, whatever its number
abbrev pub records_of_tree : Tree → Content → Records
records_of_tree tree c number node = record_in (Some tree) node c

-- Records of a path were appended: those of `count` levels, from level `first` to level `last` at most. If the content is known, they are
-- the records of these levels, up to the first level whose node has none.
pub record LevelsOnto (is_known : Type 0) (tree : Tree) (leaf first last count : ℕ) (c : Content) (old new : List ℕ) : Type 0 where
  pub more : List ℕ
  pub grown : new ≡ old ++ more
  pub within : first + count ≤ last + 1
  pub whole : length more ≡ count * tree.shape.record_len
  pub are : is_known → AreLevelsOf (records_of_tree tree c) 0 (sizes_of tree.shape) leaf first count more
  pub ends : is_known → first + count ≤ last → record_in (Some tree) (node_on tree.shape.depth leaf (first + count)) c ≡ None

-- the bytes of a record were appended; if the content is known, they are the record of the node
pub record RecordOnto (is_known : Type 0) (tree : Tree) (node : ℕ) (c : Content) (old new : List ℕ) : Type 0 where
  pub more : List ℕ
  pub long : length more ≡ tree.shape.record_len
  pub grown : new ≡ old ++ more
  pub is : is_known → record_in (Some tree) node c ≡ Some more
