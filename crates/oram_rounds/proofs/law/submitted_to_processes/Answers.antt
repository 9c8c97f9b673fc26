use Rattle.oram_rounds.proofs.AllSubmitted.{submitted_to_processes}
use Rattle.oram_rounds.proofs.law.submitted_to_processes.Goals as goal

pub returns : goal.returns
returns g c = submitted_to_processes _ _
