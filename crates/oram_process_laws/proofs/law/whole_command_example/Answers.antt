use Rattle.oram_process_laws.proofs.WholeCommand.{whole_example}
use Rattle.oram_process_laws.proofs.law.whole_command_example.Goals as goal

pub returns : goal.returns
returns c = whole_example
