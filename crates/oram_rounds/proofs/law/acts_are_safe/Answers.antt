use Rattle.oram_rounds.proofs.Safety.{acts_are_safe}
use Rattle.oram_rounds.proofs.law.acts_are_safe.Goals as goal

pub returns : goal.returns
returns c c' = acts_are_safe _ _
