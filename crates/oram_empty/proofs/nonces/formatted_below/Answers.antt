use Rattle.std.proofs.Common.{arith, ap, sym, ◌≡◌}
use Rattle.oram_tree.specs.Content.{node_count}
use Rattle.oram_semantics.proofs.NoncesApart.{formatted_small}
use Rattle.oram_empty.proofs.Counts.{formatted-none, formatted-more}
use Rattle.oram_empty.proofs.nonces.formatted_below.Goals as goal

pub loop-earlier-init : goal.loop-earlier-init
loop-earlier-init c = sym (formatted-none c.args.device.now)

pub overflow_add-nonce : goal.overflow_add-nonce
overflow_add-nonce c = omega (arith, formatted_small c.args.device.now c.loop-earlier.earlier)

pub loop-earlier-preserved : goal.loop-earlier-preserved
loop-earlier-preserved c = omega (arith, formatted-more c.args.device.now c.loop-earlier.earlier, ap node_count c.depth.ensures.count)

pub returns-clause-few : goal.returns-clause-few
returns-clause-few c = let all : c.loop-earlier.earlier ≡ c.args.tree = omega arith in omega (arith, formatted_small c.args.device.now c.loop-earlier.earlier)
