use Rattle.oram_empty.proofs.CollectedAll.{collections_have}
use Rattle.oram_empty.proofs.laws.collections_have_the_formatting.Goals as goal

pub returns : goal.returns
returns c = collections_have
