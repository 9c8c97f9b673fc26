use Rattle.std.proofs.Common.{◌≤◌, ◌-◌}
use Rattle.oram_settings.specs.NearRecords as spec
use Rattle.oram_settings.proofs.near_records.near_levels.Given as goal

-- so many levels have room, and none of them is the leaves'
abbrev pub invariant-loop-levels : goal.invariant-loop-levels
invariant-loop-levels l = (l.levels ≤ l.depth) × (spec.near_len l.device l.overhead l.levels ≤ l.near)

abbrev pub decreases-loop-levels : goal.decreases-loop-levels
decreases-loop-levels l = l.depth - l.levels
