use Rattle.std.proofs.lemmas.Result.{IfOk-from_err}
use Rattle.oram_nbd.proofs.negotiation.greet.Goals as goal

pub returns-in_err-send-clause-ok : goal.returns-in_err-send-clause-ok
returns-in_err-send-clause-ok g c = IfOk-from_err c.from_residual.result _ c.from_residual.ensures.0

pub returns-in_err-fill-clause-ok : goal.returns-in_err-fill-clause-ok
returns-in_err-fill-clause-ok g c = IfOk-from_err c.from_residual-in_err-fill.result _ c.from_residual-in_err-fill.ensures.0
