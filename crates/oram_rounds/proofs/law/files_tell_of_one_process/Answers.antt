use Rattle.oram_rounds.proofs.KeptText.{one_process}
use Rattle.oram_rounds.proofs.law.files_tell_of_one_process.Goals as goal

pub returns : goal.returns
returns c = one_process
