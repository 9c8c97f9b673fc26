use Rattle.std.proofs.Common.{◌≡◌, ◌≤◌, ◌^◌, take}
use Rattle.oram_layout.specs.Trees.{next_of}
use Rattle.oram_layout.proofs.entries.next_base.Given as goal

abbrev pub invariant-loop-tree : goal.invariant-loop-tree
invariant-loop-tree l = (l.next ≡ next_of (take l.tree-index l.trees)) × (l.next ≤ 2 ^ 62)
