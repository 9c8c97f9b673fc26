-- The outstanding message and the next FETCHes of every core.
use Rattle.std.specs.Prelude.{◌≡◌, ℕ, ◌-◌, ◌^◌, ◌<◌, List}
use Rattle.std.specs.List.{All}
use Rattle.oram_geometry.specs.declared.Sizes.{Sizes}
use Rattle.oram_geometry.specs.Sizes.{depth_of, trees_of}
use Rattle.oram_wire.specs.HostMessages.{fetch_body}
use Rattle.oram_semantics.specs.InTurn.{AsksInTurn}
use Rattle.oram_semantics.specs.NextFetches.{fetch_bodies, next_fetches}
use Rattle.oram_semantics.specs.State.{State}
use Rattle.oram_core.specs.Core.{IsSound}

-- a message is the FETCH of a path of the last tree
pub record IsFirstFetch (d : Sizes) (m : List ℕ) : Type 0 where
  pub leaf : ℕ
  pub leaf_in : leaf < 2 ^ depth_of d (trees_of d - 1)
  pub named : m ≡ fetch_body (trees_of d - 1) leaf

-- While a command waits, the first of the next FETCHes is outstanding, or no FETCH of the last tree is. And all of the next
-- FETCHes ask for paths of the last tree.
pub record IsInTurn (d : Sizes) (s : State) : Type 0 where
  pub asks : AsksInTurn d s
  pub fetches : All (IsFirstFetch d) (fetch_bodies (next_fetches d s))

-- Every core is sound, even one that was read back, so this holds of every core.
abbrev pub SoundCoresAreInTurn : Type 0
SoundCoresAreInTurn = (d : Sizes) (overhead : ℕ) (s : State) → IsSound d overhead s → IsInTurn d s
