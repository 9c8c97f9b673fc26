use Rattle.oram_empty.proofs.TreePaths.{tree_paths}
use Rattle.oram_empty.proofs.laws.empty_paths_are_the_trees.Goals as goal

pub returns : goal.returns
returns c = tree_paths
