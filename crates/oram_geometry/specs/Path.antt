-- The paths of a tree: from the root, at level 0, to a leaf.
use Rattle.std.specs.Prelude.{◌≡◌, ◌≢◌, ◌≤◌, ℕ, ◌+◌, ◌-◌, ◌/◌, ◌^◌}

-- the number of the node at a level of the path of a leaf
unfoldable pub node_on : ℕ → ℕ → ℕ → ℕ
node_on depth leaf level = 2 ^ level - 1 + leaf / 2 ^ (depth - level)

-- the node isn't on the path of the leaf
abbrev pub IsOffPath : ℕ → ℕ → ℕ → Type 0
IsOffPath depth leaf node = (level : ℕ) → level ≤ depth → node ≢ node_on depth leaf level

-- the paths of the leaves x and y have the same node at level l
abbrev pub MeetsAt : ℕ → ℕ → ℕ → ℕ → Type 0
MeetsAt depth x y l = x / 2 ^ (depth - l) ≡ y / 2 ^ (depth - l)

-- the greatest level at which the paths of x and y have the same node
pub record IsGreatestMeeting (depth x y level : ℕ) : Type 0 where
  pub within : level ≤ depth
  pub meets : MeetsAt depth x y level
  pub greatest : (l : ℕ) → l ≤ depth → MeetsAt depth x y l → l ≤ level
