use Rattle.std.proofs.Common.{◌≡◌, ◌≢◌, ◌<◌, length, ap, ◌∙◌, arith, below_more, get_or-set_other, get_or-set_same}
use Rattle.std.proofs.Math.ListN.{length-set}
use Rattle.oram_geometry.specs.Sizes.{depth_of, level_for}
use Rattle.oram_geometry.proofs.DeviceSizes.{blocks_in-room}
use Rattle.oram_geometry.proofs.counts.depths_for.Goals as goal

pub depth_for-requires-clause-blocks : goal.depth_for-requires-clause-blocks
depth_for-requires-clause-blocks c =
    let e = c.requires.counts c.loop-tree.tree (omega arith) in
    rw e (blocks_in-room c.args.sizes.now c.requires.ranges c.loop-tree.tree)

pub loop-tree-preserved : goal.loop-tree-preserved
loop-tree-preserved c =
    let d = c.args.sizes.now in
    let tree = c.loop-tree.tree in
    let inv = c.loop-tree.invariant in
    let within : tree < length c.loop-tree.depths = omega (arith, inv.0) in
    let step : c.depth_for.result ≡ depth_of d tree = c.depth_for.ensures ∙ ap (level_for d.leaf_load) (c.requires.counts tree (omega arith)) in (
      simp length-set inv.0,
      below_more _ _
          (λ i h. let other : i ≢ tree = omega arith in rw get_or-set_other (inv.1 i h))
          (rw get_or-set_same step),
    )
