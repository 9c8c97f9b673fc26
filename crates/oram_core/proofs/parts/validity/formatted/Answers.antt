use Rattle.std.proofs.Common.{◌≡◌, ◌+◌, ◌*◌, ◌^◌, ◌≤◌, sym, ap, arith}
use Rattle.std.proofs.lemmas.Nat.{pow-add}
use Rattle.std.proofs.Math.Nat.{pow-le-pow_right}
use Rattle.oram_geometry.specs.Sizes.{depth_of}
use Rattle.oram_tree.specs.Content.{node_count}
use Rattle.oram_semantics.proofs.NoncesApart.{formatted_small}
use Rattle.oram_core.proofs.Made.{below_none, below_next}
use Rattle.oram_core.proofs.parts.validity.formatted.Goals as goal

pub loop-tree-init : goal.loop-tree-init
loop-tree-init c = record { sum = sym (below_none c.args.device.now) }

pub overflow_add-buckets : goal.overflow_add-buckets
overflow_add-buckets c =
    let most : 2 ^ c.depth.result ≤ 2 ^ 24 = pow-le-pow_right (omega arith) c.depth.ensures.range in
    omega (arith, most, formatted_small c.args.device.now c.loop-tree.tree, c.loop-tree.invariant.sum, c.loop-tree-test.true, c.trees-tree-end.ensures.few)

pub loop-tree-preserved : goal.loop-tree-preserved
loop-tree-preserved c =
    let d = c.args.device.now in
    let most : 2 ^ c.depth.result ≤ 2 ^ 24 = pow-le-pow_right (omega arith) c.depth.ensures.range in
    let twice : 2 ^ (c.depth.result + 1) ≡ 2 ^ c.depth.result * 2 = pow-add 2 c.depth.result 1 in
    let deep : node_count (depth_of d c.loop-tree.tree) ≡ node_count c.depth.result = ap node_count (sym c.depth.ensures.count) in
    record { sum = omega (arith, most, twice, deep, c.loop-tree.invariant.sum, below_next d c.loop-tree.tree) }
