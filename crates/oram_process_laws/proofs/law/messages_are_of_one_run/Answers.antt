use Rattle.oram_process_laws.proofs.Lives.{messages_are_of_one_run}
use Rattle.oram_process_laws.proofs.law.messages_are_of_one_run.Goals as goal

pub returns : goal.returns
returns c c' = messages_are_of_one_run _ _
