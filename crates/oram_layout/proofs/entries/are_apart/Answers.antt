use Rattle.std.proofs.Common.{◌≡◌, Some, None, sym, ◌∙◌, subst, take}
use Rattle.std.proofs.lemmas.Bool.{false≢true}
use Rattle.std.proofs.lemmas.List.{get_or_read}
use Rattle.oram_layout.specs.Trees.{IsPlaced, tree_at}
use Rattle.oram_layout.specs.declared.trees.Tree.{Tree}
use Rattle.oram_layout.proofs.Apart.{placed_more, placed_there}
use Rattle.oram_layout.proofs.entries.are_apart.Goals as goal
use Rattle.oram_layout.proofs.entries.are_apart.Goals.{in-Some+else-not-is_placed, in_default}

pub returns-then-not-is_placed : goal.returns-then-not-is_placed
returns-then-not-is_placed c =
    let trees = c.args.trees.now in
    let i = c.loop-number.number in
    let there : tree_at trees i ≡ Some c.in-Some.tree = sym (get_or_read trees i c.index-trees-number.result c.loop-number-test.true c.index-trees-number.is None) ∙ c.in-Some.is in (
      λ no. absurd (false≢true no),
      λ apart. absurd (false≢true (sym c.if-not-is_placed.true ∙ c.is_placed.ensures.1 (placed_there trees i c.in-Some.tree apart there))),
    )

pub loop-number-preserved : goal.loop-number-preserved
loop-number-preserved c =
    let trees = c.args.trees.now in
    let i = c.loop-number.number in
    let item = c.index-trees-number.result in
    let there : tree_at trees i ≡ item = sym (get_or_read trees i item c.loop-number-test.true c.index-trees-number.is None) in
    elim c.match-tree.branch [
      | in-Some+else-not-is_placed w ↦ placed_more trees i item there (λ tree is.
          let one : w.in-Some.tree ≡ tree = let a = w.in-Some.is in cc in
          subst (λ (t : Tree). IsPlaced t (take i trees)) one (w.is_placed.ensures.0 w.if-not-is_placed.false)) c.loop-number.invariant
      | in_default w ↦ placed_more trees i item there (λ tree is. absurd (let a = w.in_default.is in cc)) c.loop-number.invariant
    ]
