use Rattle.oram_redo.proofs.Outcomes.{cause_of}
use Rattle.std.proofs.Common.{refl}
use Rattle.oram_redo.proofs.steps.set_gate.Goals as goal

pub returns-in-Ok-clause-written : goal.returns-in-Ok-clause-written
returns-in-Ok-clause-written g c = c.in-Ok.ensures.written

pub returns-in-Ok-clause-sure : goal.returns-in-Ok-clause-sure
returns-in-Ok-clause-sure g c = c.in-Ok.ensures.sure

pub returns-in-Ok-clause-torn : goal.returns-in-Ok-clause-torn
returns-in-Ok-clause-torn g c = c.write_synced.ensures.torn

pub returns-in-Ok-clause-crash : goal.returns-in-Ok-clause-crash
returns-in-Ok-clause-crash g c = c.write_synced.ensures.crash

pub returns-in-Ok-clause-moments : goal.returns-in-Ok-clause-moments
returns-in-Ok-clause-moments g c = c.write_synced.ensures.moments

pub returns-in-Ok-clause-after : goal.returns-in-Ok-clause-after
returns-in-Ok-clause-after g c = c.write_synced.ensures.after

pub returns-in-Err-clause-torn : goal.returns-in-Err-clause-torn
returns-in-Err-clause-torn g c = c.write_synced.ensures.torn

pub returns-in-Err-clause-crash : goal.returns-in-Err-clause-crash
returns-in-Err-clause-crash g c = c.write_synced.ensures.crash

pub returns-in-Err-clause-moments : goal.returns-in-Err-clause-moments
returns-in-Err-clause-moments g c = c.write_synced.ensures.moments

pub returns-in-Err-clause-after : goal.returns-in-Err-clause-after
returns-in-Err-clause-after g c = c.write_synced.ensures.after

pub returns-in-Err-clause-failed : goal.returns-in-Err-clause-failed
returns-in-Err-clause-failed g c = (refl, cause_of g.F.FilePair.model c.in-Err.field-0 c.args.files.now c.write_synced.new.files c.in-Err.ensures.errors c.in-Err.ensures.cause)
