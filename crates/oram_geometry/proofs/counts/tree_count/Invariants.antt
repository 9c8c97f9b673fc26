use Rattle.std.proofs.Common.{◌≡◌, ℕ, ◌<◌, ◌≤◌, ◌-◌, false}
use Rattle.oram_geometry.specs.Sizes.{fits_table}
use Rattle.oram_geometry.proofs.counts.tree_count.Given as goal

abbrev pub invariant-loop-trees : goal.invariant-loop-trees
invariant-loop-trees l = (1 ≤ l.trees) × (l.trees ≤ 14) × ((h : ℕ) → 1 ≤ h → h < l.trees → fits_table l.sizes h ≡ false)

abbrev pub decreases-loop-trees : goal.decreases-loop-trees
decreases-loop-trees l = 14 - l.trees
