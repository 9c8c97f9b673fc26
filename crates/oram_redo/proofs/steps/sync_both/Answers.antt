use Rattle.oram_redo.proofs.Moments.{nothing_more_written, one_nothing}
use Rattle.oram_redo.proofs.Outcomes.{after_then, if_err_passed, on_ok_none}
use Rattle.std.proofs.Common.{inl, ap, Err}
use Rattle.oram_redo.proofs.steps.sync_both.Goals as goal

pub returns-in_err-sync-clause-log : goal.returns-in_err-sync-clause-log
returns-in_err-sync-clause-log g c = on_ok_none c.from_residual.result _ c.from_residual.ensures.0

pub returns-in_err-sync-clause-records : goal.returns-in_err-sync-clause-records
returns-in_err-sync-clause-records g c = on_ok_none c.from_residual.result _ c.from_residual.ensures.0

pub returns-in_err-sync-clause-nothing_written : goal.returns-in_err-sync-clause-nothing_written
returns-in_err-sync-clause-nothing_written g c = one_nothing g.F.FilePair.model c.args.files.now c.sync.new.self (g.met.F.FilePair.only_now c.args.files.now) c.sync.ensures.seen c.sync.ensures.crash c.sync.ensures.time

pub returns-in_err-sync-clause-failed : goal.returns-in_err-sync-clause-failed
returns-in_err-sync-clause-failed g c = if_err_passed c.from_residual.result c.in_err-sync.field-0.0 _ c.from_residual.ensures.1 (c.in_err-sync.ensures.errors, inl (c.in_err-sync.ensures.cause.failed (ap Err c.in_err-sync.ensures.errors)))

pub returns-in_err-sync-clause-after : goal.returns-in_err-sync-clause-after
returns-in_err-sync-clause-after g c = c.sync.ensures.after

pub returns-clause-nothing_written : goal.returns-clause-nothing_written
returns-clause-nothing_written g c = nothing_more_written g.F.FilePair.model c.args.files.now c.sync.new.self c.sync-2.new.self (one_nothing g.F.FilePair.model c.args.files.now c.sync.new.self (g.met.F.FilePair.only_now c.args.files.now) c.sync.ensures.seen c.sync.ensures.crash c.sync.ensures.time) (one_nothing g.F.FilePair.model c.sync.new.self c.sync-2.new.self (g.met.F.FilePair.only_now c.sync.new.self) c.sync-2.ensures.seen c.sync-2.ensures.crash c.sync-2.ensures.time)

pub returns-clause-after : goal.returns-clause-after
returns-clause-after g c = after_then g.F.FilePair.model c.args.files.now c.sync.new.self c.sync-2.new.self c.sync.ensures.after c.sync-2.ensures.after
