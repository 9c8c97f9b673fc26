use Rattle.std.proofs.Common.{arith, ap, sym, ◌≡◌}
use Rattle.oram_empty.specs.KeptDigests.{upper_count}
use Rattle.oram_empty.proofs.Counts.{upper-none, upper-more, upper_few}
use Rattle.oram_empty.proofs.digests.upper_below.Goals as goal

pub loop-earlier-init : goal.loop-earlier-init
loop-earlier-init c = sym (upper-none c.args.device.now)

pub overflow_add-nodes : goal.overflow_add-nodes
overflow_add-nodes c = omega (arith, upper_few c.args.device.now c.loop-earlier.earlier)

pub loop-earlier-preserved : goal.loop-earlier-preserved
loop-earlier-preserved c = omega (arith, upper-more c.args.device.now c.loop-earlier.earlier, ap upper_count c.depth.ensures.count)

pub returns-clause-few : goal.returns-clause-few
returns-clause-few c = let all : c.loop-earlier.earlier ≡ c.args.tree = omega arith in omega (arith, upper_few c.args.device.now c.loop-earlier.earlier)
