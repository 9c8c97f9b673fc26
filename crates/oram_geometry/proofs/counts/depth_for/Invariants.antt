use Rattle.std.proofs.Common.{◌≡◌, ℕ, ◌<◌, ◌≤◌, ◌-◌, ◌*◌, ◌^◌, nat_le, false}
use Rattle.oram_geometry.proofs.counts.depth_for.Given as goal

abbrev pub invariant-loop-level : goal.invariant-loop-level
invariant-loop-level l = (l.level ≤ 24) × ((m : ℕ) → m < l.level → nat_le l.blocks (l.load * 2 ^ m) ≡ false)

abbrev pub decreases-loop-level : goal.decreases-loop-level
decreases-loop-level l = 24 - l.level
