use Rattle.std.proofs.lemmas.Result.{IfOk-from_err}
use Rattle.oram_nbd.proofs.negotiation.next_option.Goals as goal

pub returns-in_err-next_head-clause-ok : goal.returns-in_err-next_head-clause-ok
returns-in_err-next_head-clause-ok g c = IfOk-from_err c.from_residual.result _ c.from_residual.ensures.0
