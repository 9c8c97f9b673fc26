-- Patches that change a bucket file's records.
use Rattle.std.specs.Prelude.{◌≡◌, ◌≢◌, ◌<◌, ◌≤◌, ℕ, zero, suc, ◌+◌, List, [], ◌∷◌, map, length, Some}
use Rattle.oram_host.specs.Path.{node_on, record_at}
use Rattle.oram_redo.specs.Content.{Content}
use Rattle.oram_redo.specs.Log.{Patch}
use Rattle.oram_layout.specs.Header.{entry_at, entry_bytes}
use Rattle.oram_layout.specs.Limits.{cell_len, nodes_of}
use Rattle.oram_layout.specs.Trees.{Trees, cell_at, sizes_of, tree_at}
use Rattle.oram_layout.specs.declared.trees.Tree.{Tree}

-- writes a record into its cell, with the mark that says that it is there
abbrev pub record_patch : Tree → ℕ → List ℕ → Patch
record_patch tree node bytes = (cell_at tree node, 1 ∷ bytes)

-- Writes a record without its mark, so that it doesn't count yet. Since the two share a block, this shows whether the
-- disk has room for both.
abbrev pub unmarked_patch : Tree → ℕ → List ℕ → Patch
unmarked_patch tree node bytes = (suc (cell_at tree node), bytes)

-- patches for the records of a leaf's path from level `first` on: n of them, from the i-th on
abbrev pub level_patches : Tree → ℕ → ℕ → List ℕ → ℕ → ℕ → List Patch
level_patches tree leaf first bytes i zero = []
level_patches tree leaf first bytes i (suc n) =
    record_patch tree (node_on tree.shape.depth leaf (first + i)) (record_at tree.shape.record_len bytes i) ∷ level_patches tree leaf first bytes (suc i) n

-- writes a tree into the header
abbrev pub tree_patch : ℕ → Tree → Patch
tree_patch number tree = (entry_at number, entry_bytes (Some tree))

-- sets the marks of these cells
abbrev pub marks : List ℕ → List Patch
marks cells = map (λ cell. (cell, 1 ∷ [])) cells

-- the place is that of a node's cell
pub record IsCell (trees : Trees) (cell : ℕ) : Type 0 where
  pub number : ℕ
  pub tree : Tree
  pub node : ℕ
  pub is_there : tree_at trees number ≡ Some tree
  pub within : node < nodes_of (sizes_of tree.shape)
  pub place : cell ≡ cell_at tree node

-- A patch that touches no record: it lies in a cell that has none, after the mark.
pub record IsOffRecords (trees : Trees) (c : Content) (patch : Patch) : Type 0 where
  pub number : ℕ
  pub tree : Tree
  pub node : ℕ
  pub is_there : tree_at trees number ≡ Some tree
  pub within : node < nodes_of (sizes_of tree.shape)
  pub behind : cell_at tree node < patch.0
  pub ends : patch.0 + length patch.1 ≤ cell_at tree node + cell_len tree.shape.record_len
  pub unset : c (cell_at tree node) ≢ 1
