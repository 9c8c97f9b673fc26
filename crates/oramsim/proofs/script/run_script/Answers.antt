use Rattle.oramsim.proofs.Cut.{unflushed}
use Rattle.oramsim.proofs.GivenUp.{raised}
use Rattle.oramsim.proofs.script.run_script.Goals as goal

pub returns-in_err-flush-clause-err : goal.returns-in_err-flush-clause-err
returns-in_err-flush-clause-err g c =
    let ended = c.run_to_end-ended in
    raised _ _ c.in_err-flush.field-0.0 c.from_residual.ensures.1
    (unflushed _ _ _ _ ended.result c.in_err-flush.field-0.0 ended.ensures.ok ended.ensures.err c.flush.ensures.same c.in_err-flush.ensures.fault)
