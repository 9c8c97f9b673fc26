use Rattle.oram_keeper.proofs.Told.{are_told}
use Rattle.oram_keeper.proofs.law.changes_are_told.Goals as goal

pub returns : goal.returns
returns g c = are_told _ _
