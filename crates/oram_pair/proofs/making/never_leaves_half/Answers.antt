use Rattle.oram_pair.proofs.Makings.{making_example, never_half}
use Rattle.oram_pair.proofs.making.never_leaves_half.Goals as goal

pub returns-clause-law : goal.returns-clause-law
returns-clause-law c = never_half

pub returns-clause-example : goal.returns-clause-example
returns-clause-example c = making_example
