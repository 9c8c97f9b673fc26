use Rattle.oram_layout.proofs.Changes.{levels_put}
use Rattle.oram_layout.proofs.laws.levels_are_put.Goals as goal

pub returns : goal.returns
returns c = levels_put
