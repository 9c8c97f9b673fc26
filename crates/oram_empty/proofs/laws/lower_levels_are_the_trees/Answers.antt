use Rattle.oram_empty.proofs.TreePaths.{lower_levels}
use Rattle.oram_empty.proofs.laws.lower_levels_are_the_trees.Goals as goal

pub returns : goal.returns
returns c = lower_levels
