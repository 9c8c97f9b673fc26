use Rattle.oram_redo.proofs.Outcomes.{if_ok_none}
use Rattle.oram_redo.proofs.memory.copy_of.Goals as goal

pub returns-in_err-to_vec : goal.returns-in_err-to_vec
returns-in_err-to_vec c = if_ok_none c.from_residual.result _ c.from_residual.ensures.0

pub returns-in_err-to_vec-2 : goal.returns-in_err-to_vec-2
returns-in_err-to_vec-2 c = if_ok_none c.from_residual-in_err-to_vec-2.result _ c.from_residual-in_err-to_vec-2.ensures.0

pub returns-in_err-to_vec-3 : goal.returns-in_err-to_vec-3
returns-in_err-to_vec-3 c = if_ok_none c.from_residual-in_err-to_vec-3.result _ c.from_residual-in_err-to_vec-3.ensures.0
