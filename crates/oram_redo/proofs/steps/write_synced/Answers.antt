use Rattle.oram_redo.proofs.TornWrites.{torn_not}
use Rattle.oram_redo.proofs.Moments.{goes_on, one_call}
use Rattle.oram_redo.proofs.Outcomes.{after_then, cause_last, cause_passed, either_failed, if_err_passed, on_ok_holds, on_ok_none}
use Rattle.oram_redo.specs.Steps.{Tears}
use Rattle.oram_redo.specs.FilePair.{other_than}
use Rattle.std.proofs.Common.{length, ◌∙◌}
use Rattle.oram_redo.proofs.steps.write_synced.Goals as goal

pub returns-in_err-write_at-clause-written : goal.returns-in_err-write_at-clause-written
returns-in_err-write_at-clause-written g c = on_ok_none c.from_residual.result _ c.from_residual.ensures.0

pub returns-in_err-write_at-clause-sure : goal.returns-in_err-write_at-clause-sure
returns-in_err-write_at-clause-sure g c = on_ok_none c.from_residual.result _ c.from_residual.ensures.0

pub returns-in_err-write_at-clause-torn : goal.returns-in_err-write_at-clause-torn
returns-in_err-write_at-clause-torn g c = c.write_at.ensures.torn

pub returns-in_err-write_at-clause-crash : goal.returns-in_err-write_at-clause-crash
returns-in_err-write_at-clause-crash g c = c.write_at.ensures.crash

pub returns-in_err-write_at-clause-moments : goal.returns-in_err-write_at-clause-moments
returns-in_err-write_at-clause-moments g c =
    one_call g.F.FilePair.model c.args.files.now c.write_at.new.self (Tears c.args.file c.args.at (length c.args.bytes.now) (g.F.FilePair.model.may_leave c.args.files.now)) _
    (λ f left. (f, g.met.F.FilePair.only_now c.args.files.now f left, torn_not c.args.file c.args.at (length c.args.bytes.now) f)) c.write_at.ensures.time c.write_at.ensures.crash

pub returns-in_err-write_at-clause-after : goal.returns-in_err-write_at-clause-after
returns-in_err-write_at-clause-after g c = c.write_at.ensures.after

pub returns-in_err-write_at-clause-cause : goal.returns-in_err-write_at-clause-cause
returns-in_err-write_at-clause-cause g c = cause_passed g.F.FilePair.model c.from_residual.result c.in_err-write_at.field-0.0 c.args.files.now c.write_at.new.self c.from_residual.ensures.1 c.in_err-write_at.ensures.cause

pub returns-in_err-write_at-clause-errors : goal.returns-in_err-write_at-clause-errors
returns-in_err-write_at-clause-errors g c = if_err_passed c.from_residual.result c.in_err-write_at.field-0.0 _ c.from_residual.ensures.1 c.in_err-write_at.ensures.errors

pub returns-clause-written : goal.returns-clause-written
returns-clause-written g c =
    let first = c.in_ok-write_at.ensures.written in
    on_ok_holds c.sync.result _ (record { there = λ i. c.sync.ensures.seen c.args.file i ∙ first.there i; other = λ i. c.sync.ensures.seen (other_than c.args.file) i ∙ first.other i })

pub returns-clause-sure : goal.returns-clause-sure
returns-clause-sure g c = c.sync.ensures.sure

pub returns-clause-torn : goal.returns-clause-torn
returns-clause-torn g c = record {
  before = λ i low. c.sync.ensures.seen c.args.file i ∙ c.write_at.ensures.torn.before i low;
  after = λ i high. c.sync.ensures.seen c.args.file i ∙ c.write_at.ensures.torn.after i high;
  other = λ i. c.sync.ensures.seen (other_than c.args.file) i ∙ c.write_at.ensures.torn.other i;
}

pub returns-clause-crash : goal.returns-clause-crash
returns-clause-crash g c f now = c.write_at.ensures.crash f (c.sync.ensures.crash f now)

pub returns-clause-moments : goal.returns-clause-moments
returns-clause-moments g c =
    let first = one_call g.F.FilePair.model c.args.files.now c.write_at.new.self (Tears c.args.file c.args.at (length c.args.bytes.now) (g.F.FilePair.model.may_leave c.args.files.now)) _
    (λ f left. (f, g.met.F.FilePair.only_now c.args.files.now f left, torn_not c.args.file c.args.at (length c.args.bytes.now) f)) c.write_at.ensures.time c.write_at.ensures.crash in
    goes_on g.F.FilePair.model c.args.files.now c.write_at.new.self c.sync.new.self (Tears c.args.file c.args.at (length c.args.bytes.now) (g.F.FilePair.model.may_leave c.args.files.now)) (g.F.FilePair.model.may_leave c.sync.new.self) first c.sync.ensures.time (λ f now. c.write_at.ensures.crash f (c.sync.ensures.crash f now))

pub returns-clause-after : goal.returns-clause-after
returns-clause-after g c = after_then g.F.FilePair.model c.args.files.now c.write_at.new.self c.sync.new.self c.write_at.ensures.after c.sync.ensures.after

pub returns-clause-cause : goal.returns-clause-cause
returns-clause-cause g c = cause_last g.F.FilePair.model c.sync.result c.args.files.now c.write_at.new.self c.sync.new.self c.write_at.ensures.after c.sync.ensures.cause

pub returns-clause-errors : goal.returns-clause-errors
returns-clause-errors g c = either_failed c.sync.result c.sync.ensures.errors
