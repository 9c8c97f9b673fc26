use Rattle.std.proofs.lemmas.Result.{IfOk-from_err}
use Rattle.oram_core.proofs.parts.construction.queue_of.Goals as goal

pub returns-in_err-queue : goal.returns-in_err-queue
returns-in_err-queue c = IfOk-from_err c.from_residual.result _ c.from_residual.ensures.0

pub returns-in_err-push_back : goal.returns-in_err-push_back
returns-in_err-push_back c = IfOk-from_err c.from_residual-in_err-push_back.result _ c.from_residual-in_err-push_back.ensures.0
