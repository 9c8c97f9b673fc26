use Rattle.std.proofs.Common.{ℕ, List, subst}
use Rattle.std.specs.Ordering.{nat_cmp}
use Rattle.std.specs.BTreeMap.{WritesThrough}
use Rattle.oram_host.specs.declared.trees.Tree.{Tree}
use Rattle.oram_host.proofs.Swapped.{tree_given}
use Rattle.oram_host.proofs.trees.Tree.exchange.Goals as goal

pub returns-clause-tree : goal.returns-clause-tree
returns-clause-tree c =
    let tree : Tree = c.args.self.now in
    let new = c.get_mut.follows.lender c.swap.new.x in
    let W : List ℕ → Type 0 = λ xs. WritesThrough nat_cmp (nat_cmp c.args.node) tree.records xs new in
    let written : WritesThrough nat_cmp (nat_cmp c.args.node) tree.records c.swap.new.x new = c.get_mut.follows.holds c.swap.new.x in
    tree_given tree new c.args.node c.args.bytes.now c.requires.tree (subst W c.swap.ensures.x_after written) c.requires.fits
