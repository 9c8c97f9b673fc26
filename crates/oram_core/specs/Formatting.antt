-- A core that has just been formatted.
use Rattle.std.specs.Prelude.{◌≡◌, ℕ, ◌<◌, List, [], ◌∷◌, ◌++◌, slice_index_or}
use Rattle.oram_geometry.specs.Sizes.{IsDevice}
use Rattle.oram_tree.specs.Format.{PutsAll}
use Rattle.oram_tree.specs.State.{State as Tree}
use Rattle.oram_semantics.specs.Formatting.{IsTreeMade, AreTreesMade, IsFormatted}
use Rattle.oram_semantics.specs.Law.{new_state}
use Rattle.oram_semantics.specs.Progress.{Setting}
use Rattle.oram_semantics.specs.Scheme.{Scheme}
use Rattle.oram_semantics.specs.State.{State, no_tree}

-- the sink took messages that make tree n, and `trees` are the other trees followed by this one
pub record IsMade {K : Type 0} (v : Scheme) (putting : K → List ℕ → K → Type 0) (from : K) (n : ℕ) (others trees : List Tree) (to : K) : Type 0 where
  pub tree : Tree
  pub messages : List (List ℕ)
  pub puts : PutsAll putting from messages to
  pub made : IsTreeMade v n tree messages
  pub empty : tree.stash ≡ []
  pub joined : trees ≡ others ++ tree ∷ []

-- the sink took messages that make the trees before tree n
pub record AreMade {K : Type 0} (v : Scheme) (putting : K → List ℕ → K → Type 0) (from : K) (n : ℕ) (trees : List Tree) (to : K) : Type 0 where
  pub messages : List (List ℕ)
  pub puts : PutsAll putting from messages to
  pub made : AreTreesMade v n trees messages
  pub empty : (i : ℕ) → i < n → (slice_index_or trees i no_tree).stash ≡ []

-- The state is that of a new core: the sink took messages that make all trees of the device, and the core has these
-- trees.
pub record IsNew {K : Type 0} (v : Scheme) (putting : K → List ℕ → K → Type 0) (from : K) (s : State) (to : K) : Type 0 where
  pub ranges : IsDevice v.device
  pub format : List (List ℕ)
  pub puts : PutsAll putting from format to
  pub trees : List Tree
  pub formatted : let setting : Setting = record { scheme = v; format = format } in IsFormatted setting trees
  pub state : let setting : Setting = record { scheme = v; format = format } in s ≡ new_state setting trees
