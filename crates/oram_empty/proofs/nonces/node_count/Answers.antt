use Rattle.std.proofs.Common.{arith}
use Rattle.std.proofs.lemmas.Nat.{pow-add}
use Rattle.oram_empty.proofs.Counts.{pow_few}
use Rattle.oram_empty.proofs.nonces.node_count.Goals as goal

pub returns-clause-value : goal.returns-clause-value
returns-clause-value c = omega (arith, pow-add 2 c.args.height 1, pow_few c.args.height 24 c.requires)

pub returns-clause-few : goal.returns-clause-few
returns-clause-few c = omega (arith, pow_few c.args.height 24 c.requires)
