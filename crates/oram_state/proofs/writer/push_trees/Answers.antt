use Rattle.std.proofs.Common.{◌≡◌, length, get_or, subst, arith}
use Rattle.std.proofs.lemmas.Grind.{common_steps}
use Rattle.std.proofs.lemmas.List.Elements.{All-more}
use Rattle.oram_tree.specs.Parts.{Parts as TreeParts}
use Rattle.oram_state.proofs.writer.push_trees.Goals as goal

pub loop-tree-preserved : goal.loop-tree-preserved
loop-tree-preserved c =
    let root : length (get_or c.args.trees.now c.loop-tree.tree-index c.tree-item.result).root ≡ 32 = subst (λ (t : TreeParts). length t.root ≡ 32) c.tree-item.is c.in_ok-push_tree.ensures.root in
    record {
      spelled = grind (arith, common_steps);
      roots = All-more (λ (t : TreeParts). length t.root ≡ 32) c.args.trees.now c.loop-tree.tree-index c.tree-item.result c.loop-tree-test.true c.loop-tree.invariant.roots root;
    }
