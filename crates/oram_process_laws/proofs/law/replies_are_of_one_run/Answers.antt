use Rattle.oram_process_laws.proofs.Replied.{replies_are_of_one_run}
use Rattle.oram_process_laws.proofs.law.replies_are_of_one_run.Goals as goal

pub returns : goal.returns
returns c c' = replies_are_of_one_run _ _
