use Rattle.std.proofs.Common.{inl, inr, arith}
use Rattle.oram_settings.specs.NearRecords.{IsNearLevels}
use Rattle.oram_settings.proofs.NearRecords.{one_number}
use Rattle.oram_settings.proofs.near_records.near_levels.Goals as goal

pub returns-else-near_len-near-clause-only : goal.returns-else-near_len-near-clause-only
returns-else-near_len-near-clause-only c = λ levels it.
    let here : IsNearLevels c.args.device.now c.args.overhead c.args.near c.loop-levels.levels = record { above_leaves = omega (arith, c.loop-levels.invariant.0, c.depth-depth.ensures.count); fits = c.loop-levels.invariant.1; most = inr (omega (arith, c.near_len.ensures.value, c.if-near_len-near.false)) } in
    one_number it here

pub returns-after-loop-levels-clause-only : goal.returns-after-loop-levels-clause-only
returns-after-loop-levels-clause-only c = λ levels it.
    let here : IsNearLevels c.args.device.now c.args.overhead c.args.near c.loop-levels.levels = record { above_leaves = omega (arith, c.loop-levels.invariant.0, c.depth-depth.ensures.count); fits = c.loop-levels.invariant.1; most = inl (omega (arith, c.loop-levels.invariant.0, c.depth-depth.ensures.count, c.loop-levels-test.false)) } in
    one_number it here
