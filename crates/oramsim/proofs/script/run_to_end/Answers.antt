use Rattle.std.proofs.Common.{rules}
use Rattle.oramsim.proofs.Cut.{all_told, giving_up_as, memory_cut, memory_reported}
use Rattle.oramsim.proofs.GivenUp.{raised}
use Rattle.oramsim.proofs.script.run_to_end.Goals as goal

pub returns-in_err-put-in-Err-OutOfMemory-clause-err : goal.returns-in_err-put-in-Err-OutOfMemory-clause-err
returns-in_err-put-in-Err-OutOfMemory-clause-err g c =
    let put = c.in_err-put-in-Err-OutOfMemory in
    raised _ _ put.field-0.0 c.from_residual.ensures.1
    (memory_cut _ _ _ _ put.field-0.0 (giving_up_as _ _ _ _ c.in-Err-OutOfMemory.field-0-is c.in-Err-OutOfMemory.ensures.err) put.ensures.cut put.ensures.fault)

pub returns-in-Err-OutOfMemory-clause-err : goal.returns-in-Err-OutOfMemory-clause-err
returns-in-Err-OutOfMemory-clause-err g c =
    memory_reported _ _ _ _ (giving_up_as _ _ _ _ c.in-Err-OutOfMemory.field-0-is c.in-Err-OutOfMemory.ensures.err) c.in_ok-put-in-Err-OutOfMemory.ensures.ok

pub returns-clause-err : goal.returns-clause-err
returns-clause-err g c = search (rules, all_told)
