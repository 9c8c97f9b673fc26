use Rattle.oram_redo.proofs.Moments.{nothing_more_written, one_nothing}
use Rattle.oram_redo.proofs.Outcomes.{after_then, cause_last, cause_passed, if_err_passed, on_ok_none}
use Rattle.oram_redo.proofs.steps.write_fronts.Goals as goal

pub returns-in_err-write_front-clause-log : goal.returns-in_err-write_front-clause-log
returns-in_err-write_front-clause-log g c = on_ok_none c.from_residual.result _ c.from_residual.ensures.0

pub returns-in_err-write_front-clause-records : goal.returns-in_err-write_front-clause-records
returns-in_err-write_front-clause-records g c = on_ok_none c.from_residual.result _ c.from_residual.ensures.0

pub returns-in_err-write_front-clause-nothing_written : goal.returns-in_err-write_front-clause-nothing_written
returns-in_err-write_front-clause-nothing_written g c = one_nothing g.F.FilePair.model c.args.files.now c.write_front.new.self (g.met.F.FilePair.only_now c.args.files.now) c.write_front.ensures.seen c.write_front.ensures.crash c.write_front.ensures.time

pub returns-in_err-write_front-clause-cause : goal.returns-in_err-write_front-clause-cause
returns-in_err-write_front-clause-cause g c =
    cause_passed g.F.FilePair.model c.from_residual.result c.in_err-write_front.field-0.0 c.args.files.now c.write_front.new.self c.from_residual.ensures.1 c.in_err-write_front.ensures.cause

pub returns-in_err-write_front-clause-errors : goal.returns-in_err-write_front-clause-errors
returns-in_err-write_front-clause-errors g c = if_err_passed c.from_residual.result c.in_err-write_front.field-0.0 _ c.from_residual.ensures.1 c.in_err-write_front.ensures.errors

pub returns-in_err-write_front-clause-after : goal.returns-in_err-write_front-clause-after
returns-in_err-write_front-clause-after g c = c.write_front.ensures.after

pub returns-clause-nothing_written : goal.returns-clause-nothing_written
returns-clause-nothing_written g c = nothing_more_written g.F.FilePair.model c.args.files.now c.write_front.new.self c.write_front-2.new.self (one_nothing g.F.FilePair.model c.args.files.now c.write_front.new.self (g.met.F.FilePair.only_now c.args.files.now) c.write_front.ensures.seen c.write_front.ensures.crash c.write_front.ensures.time) (one_nothing g.F.FilePair.model c.write_front.new.self c.write_front-2.new.self (g.met.F.FilePair.only_now c.write_front.new.self) c.write_front-2.ensures.seen c.write_front-2.ensures.crash c.write_front-2.ensures.time)

pub returns-clause-after : goal.returns-clause-after
returns-clause-after g c = after_then g.F.FilePair.model c.args.files.now c.write_front.new.self c.write_front-2.new.self c.write_front.ensures.after c.write_front-2.ensures.after

pub returns-clause-cause : goal.returns-clause-cause
returns-clause-cause g c = cause_last g.F.FilePair.model c.write_front-2.result c.args.files.now c.write_front.new.self c.write_front-2.new.self c.write_front.ensures.after c.write_front-2.ensures.cause
