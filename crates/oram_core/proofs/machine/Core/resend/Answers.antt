use Rattle.std.proofs.Common.{ap, refl}
use Rattle.std.proofs.lemmas.Result.{IfOk-from_err}
use Rattle.oram_core.specs.Core.{CoreValue}
use Rattle.oram_core.proofs.Heard.{on_err}
use Rattle.oram_core.proofs.machine.Core.resend.Goals as goal

pub returns-in_err-sends-clause-kept : goal.returns-in_err-sends-clause-kept
returns-in_err-sends-clause-kept g c = (refl, refl)

pub returns-in_err-sends-clause-ok : goal.returns-in_err-sends-clause-ok
returns-in_err-sends-clause-ok g c = IfOk-from_err c.from_residual.result _ c.from_residual.ensures.0

pub returns-in_err-sends-clause-err : goal.returns-in_err-sends-clause-err
returns-in_err-sends-clause-err g c = on_err _ c.from_residual.result refl

pub same-self : goal.same-self
same-self g c = refl

pub returns-in_err-copy-clause-kept : goal.returns-in_err-copy-clause-kept
returns-in_err-copy-clause-kept g c = (refl, refl)

pub returns-in_err-copy-clause-ok : goal.returns-in_err-copy-clause-ok
returns-in_err-copy-clause-ok g c = IfOk-from_err c.from_residual-in_err-copy.result _ c.from_residual-in_err-copy.ensures.0

pub returns-in_err-copy-clause-err : goal.returns-in_err-copy-clause-err
returns-in_err-copy-clause-err g c = on_err _ c.from_residual-in_err-copy.result refl

pub same-self-in_err-push : goal.same-self-in_err-push
same-self-in_err-push g c = refl

pub returns-in_err-push-clause-kept : goal.returns-in_err-push-clause-kept
returns-in_err-push-clause-kept g c = (refl, refl)

pub returns-in_err-push-clause-ok : goal.returns-in_err-push-clause-ok
returns-in_err-push-clause-ok g c = IfOk-from_err c.from_residual-in_err-push.result _ c.from_residual-in_err-push.ensures.0

pub returns-in_err-push-clause-err : goal.returns-in_err-push-clause-err
returns-in_err-push-clause-err g c = on_err _ c.from_residual-in_err-push.result refl

pub returns-clause-kept : goal.returns-clause-kept
returns-clause-kept g c = (ap (λ (u : CoreValue g.row.S.Denot). u.device) c.self.view_is, ap (λ (u : CoreValue g.row.S.Denot). u.sealer) c.self.view_is)
