use Rattle.std.proofs.Common.{refl}
use Rattle.std.proofs.lemmas.Result.{err_from_is_err_and, IfOk-from_err}
use Rattle.oram_nbd.proofs.Pieces.{begun_second, if_err}
use Rattle.oram_nbd.proofs.streams.put.Goals as goal

pub returns-in_err-write-2-clause-err : goal.returns-in_err-write-2-clause-err
returns-in_err-write-2-clause-err g c =
    let p = err_from_is_err_and c.from_residual-in_err-write-2.result c.from_residual-in_err-write-2.ensures.1 in
    if_err _ _ _ _ p.1 p.2 (refl, begun_second _ _ _ c.args.head.now c.args.rest.now c.in_ok-write.ensures.ok c.in_err-write-2.ensures.err)

pub returns-in_err-write-clause-ok : goal.returns-in_err-write-clause-ok
returns-in_err-write-clause-ok g c = IfOk-from_err c.from_residual.result _ c.from_residual.ensures.0

pub returns-in_err-write-2-clause-ok : goal.returns-in_err-write-2-clause-ok
returns-in_err-write-2-clause-ok g c = IfOk-from_err c.from_residual-in_err-write-2.result _ c.from_residual-in_err-write-2.ensures.0
