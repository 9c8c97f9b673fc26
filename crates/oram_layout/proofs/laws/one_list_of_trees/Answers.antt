use Rattle.oram_layout.proofs.TreeEntries.{trees_one}
use Rattle.oram_layout.proofs.laws.one_list_of_trees.Goals as goal

pub returns : goal.returns
returns c = trees_one
