use Rattle.std.proofs.Common.{◌≡◌, ℕ, ◌<◌, vec_len, get_or}
use Rattle.oram_geometry.specs.Sizes.{depth_of as depth}
use Rattle.oram_stash.specs.Plan.{IsShared}
use Rattle.oram_stash.proofs.levels.shared_levels.Given as goal

abbrev pub invariant-loop-own : goal.invariant-loop-own
invariant-loop-own l = record {
  count : vec_len l.shared ≡ l.own-index;
  each : (j : ℕ) → j < l.own-index → IsShared (depth l.device l.tree) l.leaf l.leaves j (get_or l.shared.items j 0);
}
