use Rattle.oram_empty.proofs.records.+append_subtree_path.Given as goal

abbrev pub decreases-append_subtree_path : goal.decreases-append_subtree_path
decreases-append_subtree_path g l = l.height
