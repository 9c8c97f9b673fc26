-- The records in a bucket file, by tree and node.
use Rattle.std.specs.Prelude.{◌≡◌, ◌≢◌, ◌⊎◌, ℕ, suc, ◌+◌, ◌*◌, ◌<◌, ◌≤◌, ◌==◌, ◌&&◌, nat_lt, if◌then◌else◌, List, length, Option, Some, None}
use Rattle.oram_host.specs.Path.{node_on, record_at}
use Rattle.oram_redo.specs.Content.{Content, bytes_at}
use Rattle.oram_layout.specs.Limits.{TreeShape, nodes_of}
use Rattle.oram_layout.specs.Trees.{Trees, cell_at, sizes_of, tree_at}
use Rattle.oram_layout.specs.declared.trees.Tree.{Tree}

abbrev pub Records : Type 0
Records = ℕ → ℕ → Option (List ℕ)

-- the record in a cell
abbrev pub record_in : Option Tree → ℕ → Content → Option (List ℕ)
record_in None node c = None
record_in (Some t) node c =
    if nat_lt node (nodes_of (sizes_of t.shape)) && (c (cell_at t node) == 1) then Some (bytes_at t.shape.record_len (suc (cell_at t node)) c) else None

-- the records of a file's trees
abbrev pub records_in : Trees → Content → Records
records_in trees c tree node = record_in (tree_at trees tree) node c

-- each record is as it was
abbrev pub AreKept : Records → Records → Type 0
AreKept old new = (tree node : ℕ) → new tree node ≡ old tree node

-- the bytes are the records of a leaf's path, root first
pub record IsPathOf (records : Records) (tree : ℕ) (s : TreeShape) (leaf : ℕ) (bytes : List ℕ) : Type 0 where
  pub whole : length bytes ≡ (s.depth + 1) * s.record_len
  pub each : (level : ℕ) → level ≤ s.depth → records tree (node_on s.depth leaf level) ≡ Some (record_at s.record_len bytes level)

-- a record of the path is missing
abbrev pub LacksOn : Records → ℕ → TreeShape → ℕ → Type 0
LacksOn records tree s leaf = (level : ℕ) × (level ≤ s.depth) × (records tree (node_on s.depth leaf level) ≡ None)

-- each record except those of the path is as it was
abbrev pub KeepsOffPath : Records → ℕ → TreeShape → ℕ → Records → Type 0
KeepsOffPath old tree s leaf new =
    (other node : ℕ) → ((other ≢ tree) ⊎ ((level : ℕ) → level ≤ s.depth → node ≢ node_on s.depth leaf level)) → new other node ≡ old other node

-- The bytes are the records of `count` levels of a leaf's path, from level `first` on.
pub record AreLevelsOf (records : Records) (tree : ℕ) (s : TreeShape) (leaf first count : ℕ) (bytes : List ℕ) : Type 0 where
  pub whole : length bytes ≡ count * s.record_len
  pub each : (i : ℕ) → i < count → records tree (node_on s.depth leaf (first + i)) ≡ Some (record_at s.record_len bytes i)

-- each record except those of these levels of the path is as it was
abbrev pub KeepsOffLevels : Records → ℕ → TreeShape → ℕ → ℕ → ℕ → Records → Type 0
KeepsOffLevels old tree s leaf first count new =
    (other node : ℕ) → ((other ≢ tree) ⊎ ((i : ℕ) → i < count → node ≢ node_on s.depth leaf (first + i))) → new other node ≡ old other node

-- each record except this one is as it was
abbrev pub KeepsOthers : Records → ℕ → ℕ → Records → Type 0
KeepsOthers old tree node new = (other n : ℕ) → ((other ≢ tree) ⊎ (n ≢ node)) → new other n ≡ old other n
