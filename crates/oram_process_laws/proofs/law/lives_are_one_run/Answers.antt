use Rattle.oram_process_laws.proofs.Lives.{lives_are_one_run}
use Rattle.oram_process_laws.proofs.law.lives_are_one_run.Goals as goal

pub returns : goal.returns
returns c c' = lives_are_one_run _ _
