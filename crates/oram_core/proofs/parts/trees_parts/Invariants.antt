use Rattle.std.proofs.Common.{◌≡◌, All, map, take}
use Rattle.oram_bucket.specs.Cell.{IsRising}
use Rattle.oram_tree.specs.Parts.{parts_of as tree_parts}
use Rattle.oram_core.proofs.parts.trees_parts.Given as goal

abbrev pub invariant-loop-tree : goal.invariant-loop-tree
invariant-loop-tree l = record {
  filled : l.parts.items ≡ map tree_parts (take l.tree-index l.trees);
  rising : All (λ t. IsRising t.stash) l.parts.items;
}
