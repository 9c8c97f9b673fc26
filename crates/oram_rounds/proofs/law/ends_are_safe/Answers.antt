use Rattle.oram_rounds.proofs.Safety.{ends_are_safe}
use Rattle.oram_rounds.proofs.law.ends_are_safe.Goals as goal

pub returns : goal.returns
returns c c' = ends_are_safe _ _
