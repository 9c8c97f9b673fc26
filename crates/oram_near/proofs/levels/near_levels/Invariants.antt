use Rattle.std.proofs.Common.{◌-◌, ◌≤◌}
use Rattle.oram_near.specs.NearLevels.{near_len}
use Rattle.oram_near.proofs.levels.near_levels.Given as goal

abbrev pub invariant-loop-levels : goal.invariant-loop-levels
invariant-loop-levels l = record {
  within : l.levels ≤ l.depth;
  fits : near_len l.levels l.record_len ≤ l.most_bytes;
}

abbrev pub decreases-loop-levels : goal.decreases-loop-levels
decreases-loop-levels l = l.depth - l.levels
