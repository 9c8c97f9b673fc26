use Rattle.std.proofs.Common.{◌+◌, arith, ap, sym, ◌∙◌, ℕ}
use Rattle.oram_geometry.specs.Sizes.{depth_of}
use Rattle.oram_semantics.specs.Nonces.{formatted_below}
use Rattle.oram_semantics.proofs.Bounds.{depth_small}
use Rattle.oram_empty.specs.EmptyRecords.{begins_at}
use Rattle.oram_empty.proofs.Counts.{begins-root, begins-more}
use Rattle.oram_empty.proofs.nonces.begins_at.Goals as goal

pub loop-below-init : goal.loop-below-init
loop-below-init c =
    let d = c.args.device.now in
    record {
      value = c.formatted_below-nonce.ensures.value ∙ sym (begins-root (formatted_below d c.args.tree) (depth_of d c.args.tree) c.args.leaf);
      few = omega (arith, c.formatted_below-nonce.ensures.few);
    }

pub loop-below-preserved : goal.loop-below-preserved
loop-below-preserved c =
    let d = c.args.device.now in
    let base = formatted_below d c.args.tree in
    record {
      value = ap (λ (n : ℕ). n + c.nodes_before-nonce.result) c.loop-below.invariant.value
          ∙ ap (λ (n : ℕ). begins_at base (depth_of d c.args.tree) c.args.leaf c.loop-below.below + n) c.nodes_before-nonce.ensures.value
          ∙ sym (begins-more base (depth_of d c.args.tree) c.args.leaf c.loop-below.below);
      few = omega (arith, c.nodes_before-nonce.ensures.few, c.loop-below.invariant.few);
    }

pub returns-clause-few : goal.returns-clause-few
returns-clause-few c = omega (arith, c.loop-below.invariant.few, depth_small c.args.device.now c.args.tree)
