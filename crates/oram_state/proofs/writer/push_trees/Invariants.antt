use Rattle.std.proofs.Common.{◌≡◌, ◌++◌, All, length, take}
use Rattle.std.specs.List.{flat_map}
use Rattle.oram_state.specs.StateBytes.{tree_text}
use Rattle.oram_state.proofs.writer.push_trees.Given as goal

abbrev pub invariant-loop-tree : goal.invariant-loop-tree
invariant-loop-tree l = record {
  spelled : l.out.items ≡ l.fn.out.items ++ flat_map tree_text (take l.tree-index l.trees);
  roots : All (λ t. length t.root ≡ 32) (take l.tree-index l.trees);
}
