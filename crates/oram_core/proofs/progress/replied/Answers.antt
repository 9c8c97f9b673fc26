use Rattle.std.proofs.lemmas.Result.{IfOk-from_err}
use Rattle.oram_core.proofs.progress.replied.Goals as goal

pub returns-in_err-replies-clause-ok : goal.returns-in_err-replies-clause-ok
returns-in_err-replies-clause-ok c = IfOk-from_err c.from_residual.result _ c.from_residual.ensures.0

pub returns-in_err-replies-clause-queue : goal.returns-in_err-replies-clause-queue
returns-in_err-replies-clause-queue c = IfOk-from_err c.from_residual.result _ c.from_residual.ensures.0

pub returns-in_err-replies-clause-replies : goal.returns-in_err-replies-clause-replies
returns-in_err-replies-clause-replies c = λ x rest q. IfOk-from_err c.from_residual.result _ c.from_residual.ensures.0

pub unreachable-unreachable : goal.unreachable-unreachable
unreachable-unreachable c = c.unreachable.result
