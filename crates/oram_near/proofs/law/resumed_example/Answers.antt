use Rattle.oram_near.proofs.TwoLevels.{resumed_example}
use Rattle.oram_near.proofs.law.resumed_example.Goals as goal

pub returns : goal.returns
returns c = resumed_example
