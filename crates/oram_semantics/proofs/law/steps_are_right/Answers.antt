use Rattle.oram_semantics.proofs.WholeRuns.{steps_are_right}
use Rattle.oram_semantics.proofs.law.steps_are_right.Goals as goal

pub returns : goal.returns
returns c = steps_are_right
