use Rattle.std.proofs.Common.{◌+◌, ◌≤◌, refl, arith}
use Rattle.oram_semantics.proofs.Nonces.{one_more, rises_to}
use Rattle.oram_core.proofs.Sound.{buckets_small}
use Rattle.oram_core.proofs.parts.validity.path_buckets.Goals as goal

pub overflow_add-buckets-in-loop-tree : goal.overflow_add-buckets-in-loop-tree
overflow_add-buckets-in-loop-tree c =
    omega (arith, buckets_small c.args.device.now c.loop-tree.tree, c.loop-tree.invariant.sum, c.loop-tree-test.true, c.trees-tree-end.ensures.few, c.from.ensures, c.depth.ensures.range)

pub loop-tree-preserved : goal.loop-tree-preserved
loop-tree-preserved c =
    let d = c.args.device.now in
    let begun : c.args.first ≤ c.loop-tree.tree = c.loop-tree.invariant.begun in
    record {
      begun = omega (arith, begun);
      sum = omega (arith, c.loop-tree.invariant.sum, one_more d c.loop-tree.tree (c.loop-tree.tree + 1) refl, rises_to d c.args.first c.loop-tree.tree begun, c.from.ensures, c.depth.ensures.count);
    }
