use Rattle.oram_layout.proofs.LogRoom.{patches_fit}
use Rattle.oram_layout.proofs.laws.patches_fit.Goals as goal

pub returns : goal.returns
returns c = patches_fit
