use Rattle.std.proofs.Common.{inr, arith}
use Rattle.std.proofs.lemmas.Result.{err_from_is_err_and}
use Rattle.oram_nbd.proofs.Negotiated.{agreed_by, agreed_gone, greeted, negotiated_on, stopped_at_head, stopped_at_last, stopped_behind}
use Rattle.oram_nbd.proofs.Pieces.{if_err}
use Rattle.oram_nbd.proofs.negotiation.negotiate.Goals as goal

pub loop-init : goal.loop-init
loop-init g c =
    let greeting = c.in_ok-zeroes.ensures.ok in
    greeted _ _ _ _ greeting.0 greeting.1 greeting.2 greeting.3

pub returns-in_err-head-clause-err : goal.returns-in_err-head-clause-err
returns-in_err-head-clause-err g c =
    let p = err_from_is_err_and c.from_residual-in_err-head.result c.from_residual-in_err-head.ensures.1 in
    if_err _ _ _ _ p.1 p.2 (inr (stopped_at_head _ _ _ _ _ _ c.in_err-head.field-0.0 c.loop.invariant c.in_err-head.ensures.err))

pub returns-in_default-clause-ok : goal.returns-in_default-clause-ok
returns-in_default-clause-ok g c =
    let came = rw c.in_default.is at c.in_ok-head.ensures.ok in
    agreed_gone _ _ _ _ _ _ c.loop.invariant came.0 came.1

pub returns-in_err-agreement-clause-err : goal.returns-in_err-agreement-clause-err
returns-in_err-agreement-clause-err g c =
    let p = err_from_is_err_and c.from_residual-in_err-agreement.result c.from_residual-in_err-agreement.ensures.1 in
    let came = rw c.in-Some.is at c.in_ok-head.ensures.ok in
    if_err _ _ _ _ p.1 p.2 (inr (stopped_behind _ _ _ _ _ _ _ c.in-Some.head c.in_err-agreement.field-0.0 c.loop.invariant came.0 came.1 c.in_err-agreement.ensures.err))

pub returns-in-Some-2-clause-ok : goal.returns-in-Some-2-clause-ok
returns-in-Some-2-clause-ok g c =
    let came = rw c.in-Some.is at c.in_ok-head.ensures.ok in
    let ex = rw c.in-Some-2.is at c.in_ok-agreement.ensures.ok in
    agreed_by _ _ _ _ _ _ _ c.in-Some.head ex.0 c.in-Some-2.agreement c.loop.invariant ex.1 ex.2 ex.3 came.1 ex.4 ex.5

pub loop-preserved : goal.loop-preserved
loop-preserved g c =
    let came = rw c.in-Some.is at c.in_ok-head.ensures.ok in
    let ex = rw c.in_default-2.is at c.in_ok-agreement.ensures.ok in
    negotiated_on _ _ _ _ _ _ _ c.in-Some.head ex.0 c.loop.invariant ex.1 ex.2 ex.3 came.1 ex.4 ex.5

pub returns-clause-err : goal.returns-clause-err
returns-clause-err g c =
    inr (stopped_at_last _ _ _ c.loop.counter _ c.loop.invariant (omega arith))
