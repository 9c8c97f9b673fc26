-- How many levels of tree 0 a client keeps itself.
use Rattle.std.specs.Prelude.{ℕ, ◌-◌, ◌*◌, ◌^◌, ◌≤◌}

-- the number of nodes of the top levels of a tree
abbrev pub nodes_of : ℕ → ℕ
nodes_of levels = 2 ^ levels - 1

-- the number of bytes of their records
abbrev pub near_len : ℕ → ℕ → ℕ
near_len levels record_len = nodes_of levels * record_len

-- the greatest number of levels, and at most the tree's depth, whose records have together at most so many bytes
pub record IsMostLevels (depth record_len most_bytes levels : ℕ) : Type 0 where
  pub within : levels ≤ depth
  pub fits : near_len levels record_len ≤ most_bytes
  pub greatest : (other : ℕ) → other ≤ depth → near_len other record_len ≤ most_bytes → other ≤ levels
