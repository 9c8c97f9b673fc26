use Rattle.std.proofs.Common.{◌≡◌, ℕ, ◌<◌, get_or, length}
use Rattle.oram_geometry.specs.Sizes.{blocks_in}
use Rattle.oram_geometry.proofs.counts.block_counts.Given as goal

abbrev pub invariant-loop-tree : goal.invariant-loop-tree
invariant-loop-tree l = (length l.counts ≡ 14) × ((i : ℕ) → i < l.tree → get_or l.counts i 0 ≡ blocks_in l.sizes i)
