use Rattle.std.proofs.Common.{[], ◌∷◌, length, refl, ap, arith, length-append}
use Rattle.oram_nbd.specs.declared.batches.Close.TheVariants.{Waits}
use Rattle.oram_nbd.proofs.Gathered.{collected_more, gathered}
use Rattle.oram_nbd.proofs.batches.gather.Goals as goal

pub returns-then-is_heavy-clause-gathered : goal.returns-then-is_heavy-clause-gathered
returns-then-is_heavy-clause-gathered g c =
    let k = c.in-Ok.ensures.ok in
    gathered _ _ _ _ _ (collected_more _ _ _ _ _ c.loop-number.invariant.so_far _ _ _ k.0 k.4.0 k.1 k.3 k.4.1 k.4.2 k.2) Waits refl

pub loop-number-preserved : goal.loop-number-preserved
loop-number-preserved g c =
    let k = c.in-Ok.ensures.ok in
    let inv = c.loop-number.invariant in
    record {
      few = omega (arith, ap length k.3, length-append c.loop-number.batch.requests.items (k.0.request ∷ []), inv.few);
      so_far = collected_more _ _ _ _ _ inv.so_far _ _ _ k.0 k.4.0 k.1 k.3 k.4.1 k.4.2 k.2;
    }
