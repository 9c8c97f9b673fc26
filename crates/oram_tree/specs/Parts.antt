-- The parts of a tree that a client keeps in its state file.
use Rattle.std.specs.Prelude.{◌≡◌, ℕ, List, All}
use Rattle.oram_geometry.specs.declared.Sizes.{Sizes}
use Rattle.oram_bucket.specs.Cell.{Cell, IsRising}
use Rattle.oram_bucket.specs.Bucket.{IsBlockOf}
use Rattle.oram_tree.specs.State.{State}

-- the digest of a tree's root record, and the blocks of its stash
pub record Parts : Type 0 where
  pub root : List ℕ
  pub stash : List Cell

abbrev pub parts_of : State → Parts
parts_of t = record { root = t.root; stash = t.stash }

-- the tree of this number with these parts
abbrev pub tree_of : ℕ → Parts → State
tree_of i p = record { number = i; root = p.root; stash = p.stash }

-- these can be the parts of tree i: the stash has only blocks that can be in this tree, by rising address
pub record ArePartsOf (d : Sizes) (i : ℕ) (p : Parts) : Type 0 where
  pub rising : IsRising p.stash
  pub blocks : All (IsBlockOf d i) p.stash

-- if a tree's stash has only blocks of this tree, its parts can be a tree's, and they make the same tree again
abbrev pub PartsMakeTheirTree : Type 0
PartsMakeTheirTree = (d : Sizes) (t : State) → IsRising t.stash → All (IsBlockOf d t.number) t.stash
    → ArePartsOf d t.number (parts_of t) × (tree_of t.number (parts_of t) ≡ t)
