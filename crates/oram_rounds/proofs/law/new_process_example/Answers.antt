use Rattle.oram_rounds.proofs.NewProcess.{new_process_example}
use Rattle.oram_rounds.proofs.law.new_process_example.Goals as goal

pub returns : goal.returns
returns c = new_process_example
