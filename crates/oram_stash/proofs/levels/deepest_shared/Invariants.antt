use Rattle.std.proofs.Common.{◌≡◌, ◌⊎◌, ℕ, ◌<◌, ◌≤◌, All, Any, take}
use Rattle.oram_geometry.specs.Sizes.{depth_of as depth}
use Rattle.oram_geometry.specs.Path.{MeetsAt}
use Rattle.oram_stash.proofs.levels.deepest_shared.Given as goal

abbrev pub invariant-loop-block : goal.invariant-loop-block
invariant-loop-block l = let deep = depth l.device l.tree in record {
  in_tree : l.deepest ≤ deep;
  at_least : l.level ≤ l.deepest;
  reached : (l.deepest ≡ l.level) ⊎ Any (λ b. MeetsAt deep l.leaf b.leaf l.deepest) l.blocks;
  apart : All (λ b. (k : ℕ) → l.deepest < k → k ≤ deep → MeetsAt deep l.leaf b.leaf k → ⊥) (take l.block-index l.blocks);
}
