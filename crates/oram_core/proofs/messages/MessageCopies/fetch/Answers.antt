use Rattle.std.proofs.Common.{refl}
use Rattle.std.proofs.lemmas.Result.{IfOk-from_err}
use Rattle.oram_core.proofs.messages.MessageCopies.fetch.Goals as goal

pub returns-in_err-kept-clause-kept : goal.returns-in_err-kept-clause-kept
returns-in_err-kept-clause-kept c = IfOk-from_err c.from_residual.result _ c.from_residual.ensures.0

pub returns-in_err-kept-clause-sends : goal.returns-in_err-kept-clause-sends
returns-in_err-kept-clause-sends c = IfOk-from_err c.from_residual.result _ c.from_residual.ensures.0

pub returns-in_err-sends-clause-kept : goal.returns-in_err-sends-clause-kept
returns-in_err-sends-clause-kept c = IfOk-from_err c.from_residual-in_err-sends.result _ c.from_residual-in_err-sends.ensures.0

pub returns-in_err-sends-clause-sends : goal.returns-in_err-sends-clause-sends
returns-in_err-sends-clause-sends c = IfOk-from_err c.from_residual-in_err-sends.result _ c.from_residual-in_err-sends.ensures.0

pub returns-in_err-copy-clause-kept : goal.returns-in_err-copy-clause-kept
returns-in_err-copy-clause-kept c = IfOk-from_err c.from_residual-in_err-copy.result _ c.from_residual-in_err-copy.ensures.0

pub returns-in_err-copy-clause-sends : goal.returns-in_err-copy-clause-sends
returns-in_err-copy-clause-sends c = IfOk-from_err c.from_residual-in_err-copy.result _ c.from_residual-in_err-copy.ensures.0

pub returns-in_err-push-clause-kept : goal.returns-in_err-push-clause-kept
returns-in_err-push-clause-kept c = IfOk-from_err c.from_residual-in_err-push.result _ c.from_residual-in_err-push.ensures.0

pub returns-in_err-push-clause-sends : goal.returns-in_err-push-clause-sends
returns-in_err-push-clause-sends c = IfOk-from_err c.from_residual-in_err-push.result _ c.from_residual-in_err-push.ensures.0

pub same-kept : goal.same-kept
same-kept c = refl
