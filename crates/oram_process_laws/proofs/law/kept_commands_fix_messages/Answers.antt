use Rattle.oram_process_laws.proofs.KeptCommands.{kept_commands_fix_messages}
use Rattle.oram_process_laws.proofs.law.kept_commands_fix_messages.Goals as goal

pub returns : goal.returns
returns c = kept_commands_fix_messages
