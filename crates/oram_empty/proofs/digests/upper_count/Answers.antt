use Rattle.std.proofs.Common.{arith}
use Rattle.oram_empty.proofs.Counts.{pow_few}
use Rattle.oram_empty.proofs.digests.upper_count.Goals as goal

pub returns-clause-few : goal.returns-clause-few
returns-clause-few c = omega (arith, pow_few c.saturating_sub.result 21 (omega arith))
