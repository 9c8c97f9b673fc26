use Rattle.oram_rounds.proofs.Start.{held_is_safe}
use Rattle.oram_rounds.proofs.law.held_is_safe.Goals as goal

pub returns : goal.returns
returns c c' = held_is_safe _ _
