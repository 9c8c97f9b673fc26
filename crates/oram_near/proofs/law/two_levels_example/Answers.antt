use Rattle.oram_near.proofs.TwoLevels.{two_levels_example}
use Rattle.oram_near.proofs.law.two_levels_example.Goals as goal

pub returns : goal.returns
returns c = two_levels_example
