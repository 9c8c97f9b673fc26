use Rattle.oram_keeper.proofs.ReadBack.{pair_begins}
use Rattle.oram_keeper.proofs.law.found_pair_begins.Goals as goal

pub returns : goal.returns
returns g c = pair_begins _ _
