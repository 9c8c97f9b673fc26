use Rattle.std.proofs.Common.{◌≡◌, ℕ, ◌<◌, get_or, length}
use Rattle.oram_geometry.specs.Sizes.{depth_of}
use Rattle.oram_geometry.proofs.counts.depths_for.Given as goal

abbrev pub invariant-loop-tree : goal.invariant-loop-tree
invariant-loop-tree l = (length l.depths ≡ 14) × ((i : ℕ) → i < l.tree → get_or l.depths i 0 ≡ depth_of l.sizes i)
