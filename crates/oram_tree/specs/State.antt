-- A tree as its client knows it, and the records at the host that belong to it.
use Rattle.std.specs.Prelude.{ℕ, List, Option}
use Rattle.oram_geometry.specs.declared.Sizes.{Sizes}
use Rattle.oram_geometry.specs.Sizes.{depth_of, record_len_of}
use Rattle.oram_hash.specs.Tree.{IsStored}
use Rattle.oram_bucket.specs.Cell.{Cell}
use Rattle.oram_bucket.specs.SealedBlocks.{Reads}
use Rattle.oram_tree.specs.Content.{Map, HasContent}

-- a tree, as the clauses of contracts see it: its number, the digest of its root's record, and its stash
pub record State : Type 0 where
  pub number : ℕ
  pub root : List ℕ
  pub stash : List Cell

-- the records are stored under the tree's root digest, and together with its stash they hold this map; the sealer opens
-- buckets with `opening` and adds `overhead` bytes
pub record IsStoredWith (opening : List ℕ → Option (List ℕ)) (overhead : ℕ) (d : Sizes) (t : State)
    (records : ℕ → List ℕ) (content : Map) : Type 0 where
  pub stands : IsStored (depth_of d t.number) (record_len_of d overhead) t.root records
  pub holds : HasContent (Reads opening d t.number) (depth_of d t.number) records t.stash content
