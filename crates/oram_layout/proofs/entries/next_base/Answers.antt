use Rattle.std.proofs.Common.{◌≡◌, ◌+◌, Option, Some, None, sym, ◌∙◌, ap, arith, take}
use Rattle.std.proofs.lemmas.List.{get_or_read}
use Rattle.oram_layout.specs.Trees.{next_of, tree_at}
use Rattle.oram_layout.specs.declared.trees.Tree.{Tree}
use Rattle.oram_layout.proofs.Places.{larger_is, next_of_more, next_with}
use Rattle.oram_layout.proofs.entries.next_base.Goals as goal
use Rattle.oram_layout.proofs.entries.next_base.Goals.{in-Some, in_default}

pub loop-tree-preserved : goal.loop-tree-preserved
loop-tree-preserved c =
    let trees = c.args.trees.now in
    let i = c.loop-tree.tree-index in
    let item = c.tree-item.result in
    let there : tree_at trees i ≡ item = sym (get_or_read trees i item c.loop-tree-test.true c.tree-item.is None) in
    let more : next_of (take (i + 1) trees) ≡ next_with item (next_of (take i trees)) = next_of_more trees i item c.loop-tree-test.true there in
    elim c.match-tree.branch [
      | in-Some w ↦
          let found : next_with item (next_of (take i trees)) ≡ next_with (Some w.in-Some.tree) (next_of (take i trees)) = ap (λ (f : Option Tree). next_with f (next_of (take i trees))) w.in-Some.is in
          (w.next-is ∙ larger_is w.max-next.result c.loop-tree.next w.end.result _ _ w.max-next.ensures c.loop-tree.invariant.0 w.end.ensures.place ∙ sym (more ∙ found), omega (arith, w.next-is, w.max-next.ensures, w.end.ensures.within))
      | in_default w ↦
          let none : item ≡ None = w.in_default.is in
          (w.next-is ∙ c.loop-tree.invariant.0 ∙ sym (more ∙ ap (λ (f : Option Tree). next_with f (next_of (take i trees))) none), omega (arith, w.next-is))
    ]
