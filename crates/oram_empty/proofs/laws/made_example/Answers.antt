use Rattle.oram_empty.proofs.Made.{made_instance}
use Rattle.oram_empty.proofs.laws.made_example.Goals as goal

pub returns : goal.returns
returns c = made_instance
