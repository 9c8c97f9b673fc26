use Rattle.std.proofs.Common.{◌≡◌, ◌≤◌, ◌-◌, false, get_or, ap, ◌∙◌, arith, below_more}
use Rattle.oram_geometry.specs.Sizes.{fits_table, blocks_in}
use Rattle.oram_geometry.proofs.DeviceSizes.{more_trees, first_trees}
use Rattle.oram_geometry.proofs.counts.tree_count.Goals as goal

pub loop-trees-smaller : goal.loop-trees-smaller
loop-trees-smaller c =
    let t = c.loop-trees.trees in
    let inv = c.loop-trees.invariant in
    let here : c.from-in-loop-trees.result ≡ blocks_in c.args.sizes.now (t - 1) = c.from-in-loop-trees.ensures ∙ ap (λ n. get_or c.args.counts.now (n - 1) 0) c.from.ensures ∙ c.requires.counts (t - 1) (omega (arith, inv.0, inv.1)) in
    let more = more_trees c.args.sizes.now t c.from-in-loop-trees.result c.requires.ranges inv.1 here c.loop-trees-test.true in
    omega (arith, more.0)

pub loop-trees-preserved : goal.loop-trees-preserved
loop-trees-preserved c =
    let t = c.loop-trees.trees in
    let inv = c.loop-trees.invariant in
    let here : c.from-in-loop-trees.result ≡ blocks_in c.args.sizes.now (t - 1) = c.from-in-loop-trees.ensures ∙ ap (λ n. get_or c.args.counts.now (n - 1) 0) c.from.ensures ∙ c.requires.counts (t - 1) (omega (arith, inv.0, inv.1)) in
    let more = more_trees c.args.sizes.now t c.from-in-loop-trees.result c.requires.ranges inv.1 here c.loop-trees-test.true in
    (omega (arith, inv.0), omega (arith, more.0), λ h low below. below_more (λ k. 1 ≤ k → fits_table c.args.sizes.now k ≡ false) t (λ k b l. inv.2 k l b) (λ _. more.1) h below low)

pub returns : goal.returns
returns c =
    let t = c.loop-trees.trees in
    let inv = c.loop-trees.invariant in
    let here : c.from-in-loop-trees.result ≡ blocks_in c.args.sizes.now (t - 1) = c.from-in-loop-trees.ensures ∙ ap (λ n. get_or c.args.counts.now (n - 1) 0) c.from.ensures ∙ c.requires.counts (t - 1) (omega (arith, inv.0, inv.1)) in
    first_trees c.args.sizes.now t c.from-in-loop-trees.result inv.0 inv.1 here c.loop-trees-test.false inv.2
