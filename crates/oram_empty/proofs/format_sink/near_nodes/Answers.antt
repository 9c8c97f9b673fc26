use Rattle.std.proofs.Common.{arith}
use Rattle.oram_empty.proofs.Counts.{pow_few}
use Rattle.oram_empty.proofs.format_sink.near_nodes.Goals as goal

pub returns-clause-few : goal.returns-clause-few
returns-clause-few c = omega (arith, pow_few c.args.near 24 c.requires)
