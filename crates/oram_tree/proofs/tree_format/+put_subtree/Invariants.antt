use Rattle.oram_tree.proofs.tree_format.+put_subtree.Given as goal

abbrev pub decreases-put_subtree : goal.decreases-put_subtree
decreases-put_subtree g l = l.height
