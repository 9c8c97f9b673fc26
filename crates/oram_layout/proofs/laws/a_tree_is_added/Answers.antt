use Rattle.oram_layout.proofs.Added.{tree_added}
use Rattle.oram_layout.proofs.laws.a_tree_is_added.Goals as goal

pub returns : goal.returns
returns c = tree_added
