use Rattle.oram_redo.proofs.Renewals.{renewed_stand}
use Rattle.oram_redo.proofs.laws.renewed_logs_stand.Goals as goal

pub returns : goal.returns
returns c = renewed_stand
