use Rattle.std.proofs.Common.{◌≡◌, Err, ap, arith}
use Rattle.std.proofs.lemmas.Result.{err_from_is_err_and}
use Rattle.oram_wire.specs.declared.frame_io.FrameFault.TheVariants.{Read, Truncated}
use Rattle.oram_wire.proofs.Transfers.{cut_body, err_is, part_of_body}
use Rattle.oram_wire.proofs.frame_io.next_frame_within.Goals as goal

pub returns-in_err-body-clause-read : goal.returns-in_err-body-clause-read
returns-in_err-body-clause-read g c = λ e.
    let p = err_from_is_err_and c.from_residual-in_err-body.result c.from_residual-in_err-body.ensures.1 in
    let fault : c.in_err-body.field-0.0 ≡ Read = err_is _ _ _ _ p.1 p.2 e in
    let head = rw c.in-Some.is at c.in_ok-len.ensures.ok in
    part_of_body _ _ _ c.in-Some.len (omega arith) head (c.in_err-body.ensures.read (ap Err fault))

pub returns-in_err-body-clause-truncated : goal.returns-in_err-body-clause-truncated
returns-in_err-body-clause-truncated g c = λ e.
    let p = err_from_is_err_and c.from_residual-in_err-body.result c.from_residual-in_err-body.ensures.1 in
    let fault : c.in_err-body.field-0.0 ≡ Truncated = err_is _ _ _ _ p.1 p.2 e in
    let head = rw c.in-Some.is at c.in_ok-len.ensures.ok in
    cut_body _ _ _ c.in-Some.len (omega arith) head (c.in_err-body.ensures.truncated (ap Err fault))
