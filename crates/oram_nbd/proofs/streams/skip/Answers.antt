use Rattle.std.proofs.Common.{ap, ◌∙◌, arith, length-take-le, length-take}
use Rattle.std.proofs.lemmas.Result.{err_from_is_err_and}
use Rattle.oram_nbd.specs.Errors.{reading_fault}
use Rattle.oram_nbd.proofs.Pieces.{if_err, skip_more, skip_short}
use Rattle.oram_nbd.proofs.streams.skip.Goals as goal

pub loop-left-preserved : goal.loop-left-preserved
loop-left-preserved g c =
    let bound = c.in_ok-got.ensures.within in record {
      within = omega arith;
      skipped = skip_more _ _ _ _ c.in_ok-got.got _ _ c.loop-left.invariant.skipped c.in_ok-got.ensures.ok (length-take-le _ _ bound) (omega (arith, length-take c.min-most.result c.loop-left.buf));
    }

pub returns-in_err-got-clause-err : goal.returns-in_err-got-clause-err
returns-in_err-got-clause-err g c =
    let p = err_from_is_err_and c.from_residual.result c.from_residual.ensures.1 in
    let h = c.in_err-got.ensures.err in
    if_err _ _ _ _ p.1 (p.2 ∙ ap reading_fault c.in_err-got.ensures.fault)
    (skip_short _ _ _ _ _ h.0 c.loop-left.invariant.skipped h.2 (omega (arith, h.1, length-take c.min-most.result c.loop-left.buf)))
