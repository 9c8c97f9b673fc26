use Rattle.std.proofs.Common.{◌≡◌, ◌≢◌, ◌<◌, ◌+◌, ◌-◌, length, ap, sym, refl, ◌∙◌, arith, below_more, get_or-set_other, get_or-set_same}
use Rattle.std.proofs.Math.ListN.{length-set}
use Rattle.std.specs.Int.{div_ceil}
use Rattle.oram_geometry.specs.Sizes.{fanout, blocks_in}
use Rattle.oram_geometry.proofs.DeviceSizes.{blocks_in-zero, blocks_in-next}
use Rattle.oram_geometry.proofs.counts.block_counts.Goals as goal

pub loop-tree-init : goal.loop-tree-init
loop-tree-init c = (refl, λ i h. let first : i ≡ 0 = omega arith in rw first (sym (blocks_in-zero c.args.sizes.now)))

pub loop-tree-preserved : goal.loop-tree-preserved
loop-tree-preserved c =
    let d = c.args.sizes.now in
    let tree = c.loop-tree.tree in
    let inv = c.loop-tree.invariant in
    let last : tree - 1 + 1 ≡ tree = omega arith in
    let within : tree < length c.loop-tree.counts = omega (arith, inv.0) in
    let step : c.div_ceil.result ≡ blocks_in d tree =
    c.div_ceil.ensures ∙ ap (λ n. div_ceil n (fanout d)) (inv.1 (tree - 1) (omega arith)) ∙ sym (blocks_in-next d (tree - 1)) ∙ ap (blocks_in d) last in (
      simp length-set inv.0,
      below_more _ _
          (λ i h. let other : i ≢ tree = omega arith in rw get_or-set_other (inv.1 i h))
          (rw get_or-set_same step),
    )
