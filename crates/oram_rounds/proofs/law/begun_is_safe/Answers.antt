use Rattle.oram_rounds.proofs.Safety.{begun_is_safe}
use Rattle.oram_rounds.proofs.law.begun_is_safe.Goals as goal

pub returns : goal.returns
returns c c' = begun_is_safe _ _
