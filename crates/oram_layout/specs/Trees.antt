-- The trees of a bucket file, and where their cells are.
use Rattle.std.specs.Prelude.{◌≡◌, ◌≢◌, ◌⊎◌, ℕ, ◌+◌, ◌*◌, ◌%◌, ◌≤◌, List, [], ◌∷◌, length, get_or, nat_le, ◌<◌, if◌then◌else◌, Option, Some, None}
use Rattle.oram_layout.specs.Limits.{TreeShape, cell_len, nodes_of}
use Rattle.oram_layout.specs.declared.entries.TheConstants.{TREES}
use Rattle.oram_layout.specs.declared.shapes.Shape.{Shape}
use Rattle.oram_layout.specs.declared.trees.TheConstants.{CELLS_AT}
use Rattle.oram_layout.specs.declared.trees.Tree.{Tree}

abbrev pub sizes_of : Shape → TreeShape
sizes_of shape = record { depth = shape.depth; record_len = shape.record_len }

-- the trees by number, from tree 0 on; `None` if a number has no tree
abbrev pub Trees : Type 0
Trees = List (Option Tree)

abbrev pub tree_at : Trees → ℕ → Option Tree
tree_at trees number = get_or trees number None

abbrev pub shape_of : Option Tree → Option TreeShape
shape_of None = None
shape_of (Some tree) = Some (sizes_of tree.shape)

abbrev pub shape_at : Trees → ℕ → Option TreeShape
shape_at trees number = shape_of (tree_at trees number)

-- the place of a node's cell
abbrev pub cell_at : Tree → ℕ → ℕ
cell_at tree node = tree.base + node * cell_len tree.shape.record_len

-- where a tree's cells end
abbrev pub end_of : Tree → ℕ
end_of tree = cell_at tree (nodes_of (sizes_of tree.shape))

-- where the cells of the next tree will begin: after the header, and after every tree of the list
abbrev pub next_of : Trees → ℕ
next_of [] = CELLS_AT
next_of (None ∷ trees) = next_of trees
next_of (Some tree ∷ trees) = if nat_le (next_of trees) (end_of tree) then end_of tree else next_of trees

-- the tree shares no byte with any of `trees`
abbrev pub IsApartFrom : Tree → Trees → Type 0
IsApartFrom tree trees = (n : ℕ) (other : Tree) → tree_at trees n ≡ Some other → (end_of other ≤ tree.base) ⊎ (end_of tree ≤ other.base)

-- the tree's cells are after the header, begin at an even place, and share no byte with `others`
pub record IsPlaced (tree : Tree) (others : Trees) : Type 0 where
  pub from : CELLS_AT ≤ tree.base
  pub even : tree.base % 2 ≡ 0
  pub apart : IsApartFrom tree others

-- the same trees, except that this number had no tree and now has `tree`
pub record AddsTree (old : Trees) (number : ℕ) (tree : Tree) (new : Trees) : Type 0 where
  pub within : number < TREES
  pub all : length new ≡ TREES
  pub free : tree_at old number ≡ None
  pub there : tree_at new number ≡ Some tree
  pub others : (n : ℕ) → n ≢ number → tree_at new n ≡ tree_at old n

-- no number has a tree
pub record HasNoTree (trees : Trees) : Type 0 where
  pub all : length trees ≡ TREES
  pub none : (n : ℕ) → tree_at trees n ≡ None

-- The cells of each tree are after the header, begin at an even place, and share no byte with another tree's.
pub record AreApart (trees : Trees) : Type 0 where
  pub from : (n : ℕ) (t : Tree) → tree_at trees n ≡ Some t → CELLS_AT ≤ t.base
  pub even : (n : ℕ) (t : Tree) → tree_at trees n ≡ Some t → t.base % 2 ≡ 0
  pub apart : (m n : ℕ) (s t : Tree) → m ≢ n → tree_at trees m ≡ Some s → tree_at trees n ≡ Some t → (end_of s ≤ t.base) ⊎ (end_of t ≤ s.base)
