-- The records that a formatting makes.
use Rattle.std.specs.Prelude.{◌≡◌, ℕ, ◌^◌, ◌<◌, ◌≤◌, List, length}
use Rattle.std.specs.List.{flat_map, range_with_len}
use Rattle.oram_geometry.specs.declared.Sizes.{Sizes}
use Rattle.oram_geometry.specs.Path.{node_on}
use Rattle.oram_geometry.specs.Sizes.{depth_of, trees_of}

-- Each node of the device's trees has one record, whichever leaf's path it is on, and each record has this length. A record is named by
-- the tree, a leaf below it, and its level.
pub record AreEmptyRecords (d : Sizes) (record_len : ℕ) (record_at : ℕ → ℕ → ℕ → List ℕ) : Type 0 where
  pub long : (tree leaf level : ℕ) → tree < trees_of d → leaf < 2 ^ depth_of d tree → level ≤ depth_of d tree → length (record_at tree leaf level) ≡ record_len
  pub one : (tree leaf other level : ℕ) → tree < trees_of d → leaf < 2 ^ depth_of d tree → other < 2 ^ depth_of d tree → level ≤ depth_of d tree
      → node_on (depth_of d tree) leaf level ≡ node_on (depth_of d tree) other level → record_at tree leaf level ≡ record_at tree other level

-- what makes the records of a formatting, and the rest that it is given: bytes that the client keeps for it behind the near records
pub record WithRest (E : Type 0) : Type 0 where
  pub maker : E
  pub rest : List ℕ

-- the records that it makes with this rest
abbrev pub made_with : {E : Type 0} → (E → List ℕ → ℕ → ℕ → ℕ → List ℕ) → WithRest E → ℕ → ℕ → ℕ → List ℕ
made_with record_at e = record_at e.maker e.rest

-- what the maker says, whatever the rest is
abbrev pub of_maker : {E T : Type 0} → (E → T) → WithRest E → T
of_maker f e = f e.maker

-- the records of so many levels, from level `first` on
abbrev pub records_from : (ℕ → List ℕ) → ℕ → ℕ → List ℕ
records_from record_at first count = flat_map record_at (range_with_len first count)
