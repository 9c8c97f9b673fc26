use Rattle.oram_process_laws.proofs.KeptCommands.{next_fetches_are_of_commands}
use Rattle.oram_process_laws.proofs.law.next_fetches_are_of_commands.Goals as goal

pub returns : goal.returns
returns c = next_fetches_are_of_commands
