use Rattle.oram_rounds.proofs.Start.{submitted_is_safe}
use Rattle.oram_rounds.proofs.law.submitted_is_safe.Goals as goal

pub returns : goal.returns
returns c c' = submitted_is_safe _ _
