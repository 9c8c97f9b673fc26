use Rattle.oram_keeper.proofs.ReadBack.{finds_noted}
use Rattle.oram_keeper.proofs.law.found_process_was_noted.Goals as goal

pub returns : goal.returns
returns g c k knows content left = finds_noted g.F.FilePair.model k knows content left
