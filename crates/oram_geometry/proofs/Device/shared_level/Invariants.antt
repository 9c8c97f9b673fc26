use Rattle.std.proofs.Common.{◌≡◌, ◌-◌, ◌≤◌, ◌<◌, ◌/◌, ◌^◌, ℕ}
use Rattle.oram_geometry.specs.Sizes.{depth_of}
use Rattle.oram_geometry.specs.Path.{MeetsAt}
use Rattle.oram_geometry.proofs.Device.shared_level.Given as goal

abbrev pub invariant-loop-x_node : goal.invariant-loop-x_node
invariant-loop-x_node l = let deep = depth_of l.self l.tree in record {
  range : l.level ≤ deep;
  x_is : l.x_node ≡ l.x / 2 ^ (deep - l.level);
  y_is : l.y_node ≡ l.y / 2 ^ (deep - l.level);
  apart : (k : ℕ) → l.level < k → k ≤ deep → MeetsAt deep l.x l.y k → ⊥;
}

abbrev pub decreases-loop-x_node : goal.decreases-loop-x_node
decreases-loop-x_node l = l.level
