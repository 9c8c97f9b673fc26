use Rattle.std.proofs.Common.{◌≡◌, ◌^◌, ◌*◌, ◌%◌, nat_le, false, arith, below_more}
use Rattle.oram_geometry.proofs.DeviceSizes.{first_level, load_fits, more_levels}
use Rattle.oram_geometry.proofs.counts.depth_for.Goals as goal

pub loop-level-smaller : goal.loop-level-smaller
loop-level-smaller c =
    let more = more_levels c.args.load c.args.blocks c.loop-level.level c.requires.few c.requires.blocks c.loop-level.invariant.0 c.loop-level-test.true in
    omega (arith, more.0)

pub loop-level-preserved : goal.loop-level-preserved
loop-level-preserved c =
    let inv = c.loop-level.invariant in
    let more = more_levels c.args.load c.args.blocks c.loop-level.level c.requires.few c.requires.blocks inv.0 c.loop-level-test.true in
    (omega (arith, more.0), below_more (λ m. nat_le c.args.blocks (c.args.load * 2 ^ m) ≡ false) c.loop-level.level inv.1 more.1)

pub returns : goal.returns
returns c =
    let inv = c.loop-level.invariant in
    let room : c.args.load * 2 ^ c.loop-level.level % 2 ^ 32 ≡ c.args.load * 2 ^ c.loop-level.level = load_fits c.args.load c.loop-level.level c.requires.few inv.0 in
    first_level c.args.load c.args.blocks c.loop-level.level inv.0 (omega (arith, room)) inv.1
