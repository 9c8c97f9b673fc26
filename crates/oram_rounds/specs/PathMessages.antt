-- FETCHes and STOREs of whole paths of a device's trees: all that a core at work sends to its host.
use Rattle.std.specs.Prelude.{◌≡◌, ℕ, ◌+◌, ◌*◌, ◌^◌, ◌<◌, List, length}
use Rattle.std.specs.List.{AllByRecursion}
use Rattle.oram_geometry.specs.declared.Sizes.{Sizes}
use Rattle.oram_geometry.specs.Sizes.{depth_of, trees_of}
use Rattle.oram_wire.specs.HostMessages.{fetch_body, store_body}

pub record IsPathFetch (d : Sizes) (body : List ℕ) : Type 0 where
  pub tree : ℕ
  pub leaf : ℕ
  pub tree_in : tree < trees_of d
  pub leaf_in : leaf < 2 ^ depth_of d tree
  pub named : body ≡ fetch_body tree leaf

-- a STORE, with a record of this length for each level of the path
pub record IsPathStore (d : Sizes) (record_len : ℕ) (body : List ℕ) : Type 0 where
  pub tree : ℕ
  pub leaf : ℕ
  pub records : List ℕ
  pub tree_in : tree < trees_of d
  pub leaf_in : leaf < 2 ^ depth_of d tree
  pub whole : length records ≡ (depth_of d tree + 1) * record_len
  pub named : body ≡ store_body tree leaf records

abbrev pub ArePathStores : Sizes → ℕ → List (List ℕ) → Type 0
ArePathStores d record_len bodies = AllByRecursion (IsPathStore d record_len) bodies
