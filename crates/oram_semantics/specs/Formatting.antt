-- The formatting of a device: the messages that make its trees, without blocks.
use Rattle.std.specs.Prelude.{◌≡◌, ℕ, ◌<◌, List, [], ◌++◌, length, slice_index_or}
use Rattle.std.specs.List.{flat_map}
use Rattle.oram_geometry.specs.Sizes.{trees_of}
use Rattle.oram_tree.specs.Format.{IsFormat}
use Rattle.oram_tree.specs.State.{State as Tree}
use Rattle.oram_semantics.specs.Scheme.{Scheme}
use Rattle.oram_semantics.specs.Progress.{Setting}
use Rattle.oram_semantics.specs.Nonces.{formatted_below}
use Rattle.oram_semantics.specs.State.{no_tree}

-- the bodies make tree i; their nonces follow those of the trees before it
pub record IsTreeMade (v : Scheme) (i : ℕ) (tree : Tree) (bodies : List (List ℕ)) : Type 0 where
  pub number : tree.number ≡ i
  pub made : IsFormat v.cipher v.device (formatted_below v.device i) tree bodies

-- the messages make the trees before tree n, one after the other
pub record AreTreesMade (v : Scheme) (n : ℕ) (trees : List Tree) (messages : List (List ℕ)) : Type 0 where
  pub parts : List (List (List ℕ))
  pub joined : messages ≡ flat_map (λ part. part) parts
  pub trees_count : length trees ≡ n
  pub parts_count : length parts ≡ n
  pub each : (i : ℕ) → i < n → IsTreeMade v i (slice_index_or trees i no_tree) (slice_index_or parts i [])

-- the messages of a run's formatting make all trees of its device
abbrev pub IsFormatted : Setting → List Tree → Type 0
IsFormatted v trees = AreTreesMade v.scheme (trees_of v.scheme.device) trees v.format

-- the messages are a beginning of those of a formatting
abbrev pub IsFormatBegun : Scheme → List (List ℕ) → Type 0
IsFormatBegun v messages =
    (more : List (List ℕ)) × (trees : List Tree) × AreTreesMade v (trees_of v.device) trees (messages ++ more)
