use Rattle.oram_redo.specs.declared.faults.RedoError.TheVariants.{Damaged, Failed}
use Rattle.oram_redo.specs.Steps.{Smears}
use Rattle.oram_redo.proofs.Moments.{nothing_more_written, then_leaves}
use Rattle.oram_redo.proofs.Outcomes.{after_then, failed_last, failed_not_damaged, has_failed, if_err_passed, if_of_passed, no_error, not_damaged, on_ok_none}
use Rattle.std.proofs.Common.{◌≡◌, Err, Ok, Result, IfSome, OnOk, is_err, false, ap, subst, sym, ◌∙◌, ⊎_elim, inl, inr, refl}
use Rattle.std.proofs.lemmas.Result.{err_from_is_err_and}
use Rattle.oram_redo.specs.Log.{put_all}
use Rattle.oram_redo.specs.Recovery.{IsEntryAt}
use Rattle.oram_redo.specs.declared.file_pair.FileKind.TheVariants.{Records, Log}
use Rattle.oram_redo.proofs.LogReads.{opens_damaged, all_read, damaged_along, end_along}
use Rattle.oram_redo.proofs.Replay.{spared, replayed_more, crash_more, moments_more}
use Rattle.oram_redo.proofs.recovery.replay.Goals as goal

ok_has : {T E : Type 0} (r : Result T E) (P : Type 0) → is_err r ≡ false → OnOk r P → P
ok_has (Ok x) P well has = has
ok_has (Err e) P well has = cc

pub returns-in_err-found-clause-damaged : goal.returns-in_err-found-clause-damaged
returns-in_err-found-clause-damaged g c honest patches log is =
    let p = err_from_is_err_and c.from_residual.result c.from_residual.ensures.1 in
    let bad = c.in_err-found.ensures.damaged honest (cc (p.1, p.2, is)) in
    let so_far = c.loop-found.invariant.so_far (c.find_entry.ensures.after.honest honest) in
    opens_damaged c.args.bounds _ so_far.done patches c.loop-found.at so_far.opens (damaged_along c.args.bounds _ _ c.loop-found.at c.loop-found.invariant.log bad) log

pub returns-then-is_err-clause-crash : goal.returns-then-is_err-clause-crash
returns-then-is_err-clause-crash g c honest patches log =
    let read_honest = c.write_at.ensures.after.honest honest in
    let found_honest = c.read.ensures.after.honest read_honest in
    let was_honest = c.find_entry.ensures.after.honest found_honest in
    let found = subst (λ o. IfSome o (IsEntryAt c.args.bounds (g.F.FilePair.model.seen c.loop-found.files Log) c.loop-found.at)) c.in-Some.is (c.in_ok-found.ensures.found found_honest) in
    let read = c.deref.ensures.value ∙ c.in_ok-bytes.ensures.bytes read_honest in
    let outside = spared c.args.bounds _ _ c.loop-found.at c.in-Some.found c.deref.result.now c.loop-found.invariant.log (c.loop-found.invariant.so_far was_honest) found
    _ c.find_entry.ensures.nothing_written.seen_same read patches log in
    crash_more g.F.FilePair.model patches c.args.files.now c.loop-found.files c.find_entry.new.files c.read.new.files c.write_at.new.self _ _
    (c.loop-found.invariant.crash was_honest patches log) c.find_entry.ensures.nothing_written c.read.ensures.nothing_written c.write_at.ensures.crash outside

pub returns-then-is_err-clause-moments : goal.returns-then-is_err-clause-moments
returns-then-is_err-clause-moments g c honest patches log =
    let read_honest = c.write_at.ensures.after.honest honest in
    let found_honest = c.read.ensures.after.honest read_honest in
    let was_honest = c.find_entry.ensures.after.honest found_honest in
    let found = subst (λ o. IfSome o (IsEntryAt c.args.bounds (g.F.FilePair.model.seen c.loop-found.files Log) c.loop-found.at)) c.in-Some.is (c.in_ok-found.ensures.found found_honest) in
    let read = c.deref.ensures.value ∙ c.in_ok-bytes.ensures.bytes read_honest in
    let outside = spared c.args.bounds _ _ c.loop-found.at c.in-Some.found c.deref.result.now c.loop-found.invariant.log (c.loop-found.invariant.so_far was_honest) found
    _ c.find_entry.ensures.nothing_written.seen_same read patches log in
    moments_more g.F.FilePair.model patches c.args.files.now c.loop-found.files c.find_entry.new.files c.read.new.files c.write_at.new.self _ _
    (c.loop-found.invariant.crash was_honest patches log) c.find_entry.ensures.nothing_written c.read.ensures.nothing_written c.write_at.ensures.crash outside
    (c.loop-found.invariant.moments was_honest patches log) c.write_at.ensures.time

pub loop-found-preserved : goal.loop-found-preserved
loop-found-preserved g c = record {
  log = λ i. c.write_at.ensures.torn.other i ∙ c.read.ensures.nothing_written.seen_same Log i ∙ c.find_entry.ensures.nothing_written.seen_same Log i ∙ c.loop-found.invariant.log i;
  so_far = λ honest.
      let read_honest = c.write_at.ensures.after.honest honest in
      let found_honest = c.read.ensures.after.honest read_honest in
      let was_honest = c.find_entry.ensures.after.honest found_honest in
      let found = subst (λ o. IfSome o (IsEntryAt c.args.bounds (g.F.FilePair.model.seen c.loop-found.files Log) c.loop-found.at)) c.in-Some.is (c.in_ok-found.ensures.found found_honest) in
      let read = c.deref.ensures.value ∙ c.in_ok-bytes.ensures.bytes read_honest in
      replayed_more c.args.bounds _ _ c.loop-found.at c.in-Some.found c.deref.result.now c.loop-found.invariant.log (c.loop-found.invariant.so_far was_honest) found
      _ c.find_entry.ensures.nothing_written.seen_same read _ _ c.read.ensures.nothing_written.seen_same (ok_has c.write_at.result _ (sym c.if-is_err.ensures.value) c.write_at.ensures.written);
  crash = λ honest patches log.
      let read_honest = c.write_at.ensures.after.honest honest in
      let found_honest = c.read.ensures.after.honest read_honest in
      let was_honest = c.find_entry.ensures.after.honest found_honest in
      let found = subst (λ o. IfSome o (IsEntryAt c.args.bounds (g.F.FilePair.model.seen c.loop-found.files Log) c.loop-found.at)) c.in-Some.is (c.in_ok-found.ensures.found found_honest) in
      let read = c.deref.ensures.value ∙ c.in_ok-bytes.ensures.bytes read_honest in
      let outside = spared c.args.bounds _ _ c.loop-found.at c.in-Some.found c.deref.result.now c.loop-found.invariant.log (c.loop-found.invariant.so_far was_honest) found
      _ c.find_entry.ensures.nothing_written.seen_same read patches log in
      crash_more g.F.FilePair.model patches c.args.files.now c.loop-found.files c.find_entry.new.files c.read.new.files c.write_at.new.self _ _
      (c.loop-found.invariant.crash was_honest patches log) c.find_entry.ensures.nothing_written c.read.ensures.nothing_written c.write_at.ensures.crash outside;
  moments = λ honest patches log.
      let read_honest = c.write_at.ensures.after.honest honest in
      let found_honest = c.read.ensures.after.honest read_honest in
      let was_honest = c.find_entry.ensures.after.honest found_honest in
      let found = subst (λ o. IfSome o (IsEntryAt c.args.bounds (g.F.FilePair.model.seen c.loop-found.files Log) c.loop-found.at)) c.in-Some.is (c.in_ok-found.ensures.found found_honest) in
      let read = c.deref.ensures.value ∙ c.in_ok-bytes.ensures.bytes read_honest in
      let outside = spared c.args.bounds _ _ c.loop-found.at c.in-Some.found c.deref.result.now c.loop-found.invariant.log (c.loop-found.invariant.so_far was_honest) found
      _ c.find_entry.ensures.nothing_written.seen_same read patches log in
      moments_more g.F.FilePair.model patches c.args.files.now c.loop-found.files c.find_entry.new.files c.read.new.files c.write_at.new.self _ _
      (c.loop-found.invariant.crash was_honest patches log) c.find_entry.ensures.nothing_written c.read.ensures.nothing_written c.write_at.ensures.crash outside
      (c.loop-found.invariant.moments was_honest patches log) c.write_at.ensures.time;
  after = record {
    honest = λ now. c.loop-found.invariant.after.honest (c.find_entry.ensures.after.honest (c.read.ensures.after.honest (c.write_at.ensures.after.honest now)));
    failed = λ n had. c.write_at.ensures.after.failed n (c.read.ensures.after.failed n (c.find_entry.ensures.after.failed n (c.loop-found.invariant.after.failed n had)));
    short = λ n had. c.write_at.ensures.after.short n (c.read.ensures.after.short n (c.find_entry.ensures.after.short n (c.loop-found.invariant.after.short n had)));
  };
}

pub returns-clause-records : goal.returns-clause-records
returns-clause-records g c honest patches log i =
    let so_far = c.loop-found.invariant.so_far (c.find_entry.ensures.after.honest honest) in
    let end = end_along c.args.bounds _ _ c.loop-found.at c.loop-found.invariant.log (c.find_entry.ensures.end honest (c.in_ok-found.was ∙ ap Ok c.in_default.is)) in
    let all = all_read c.args.bounds _ so_far.done patches c.loop-found.at so_far.opens end log in
    c.find_entry.ensures.nothing_written.seen_same Records i ∙ so_far.records i ∙ ap (λ ps. put_all ps (g.F.FilePair.model.seen c.args.files.now Records) i) (sym all)

pub returns-in_err-found-clause-log : goal.returns-in_err-found-clause-log
returns-in_err-found-clause-log g c i = c.find_entry.ensures.nothing_written.seen_same Log i ∙ c.loop-found.invariant.log i

pub returns-in_err-found-clause-records : goal.returns-in_err-found-clause-records
returns-in_err-found-clause-records g c honest patches log = on_ok_none c.from_residual.result _ c.from_residual.ensures.0

pub returns-in_err-found-clause-crash : goal.returns-in_err-found-clause-crash
returns-in_err-found-clause-crash g c honest patches log f now = c.loop-found.invariant.crash (c.find_entry.ensures.after.honest honest) patches log f (c.find_entry.ensures.nothing_written.leaves f now)

pub returns-in_err-found-clause-moments : goal.returns-in_err-found-clause-moments
returns-in_err-found-clause-moments g c honest patches log =
    let was = c.find_entry.ensures.after.honest honest in
    then_leaves g.F.FilePair.model c.args.files.now c.loop-found.files c.find_entry.new.files (Smears patches (g.F.FilePair.model.may_leave c.args.files.now)) (g.F.FilePair.model.may_leave c.loop-found.files) (c.loop-found.invariant.moments was patches log) c.find_entry.ensures.nothing_written.moments (c.loop-found.invariant.crash was patches log)

pub returns-in_err-found-clause-failed : goal.returns-in_err-found-clause-failed
returns-in_err-found-clause-failed g c is = if_of_passed c.from_residual.result c.in_err-found.field-0.0 Failed _ c.from_residual.ensures.1 (λ of. failed_last g.F.FilePair.model c.args.files.now c.loop-found.files c.find_entry.new.files c.loop-found.invariant.after (c.in_err-found.ensures.failed of)) is

pub returns-in_err-found-clause-after : goal.returns-in_err-found-clause-after
returns-in_err-found-clause-after g c = after_then g.F.FilePair.model c.args.files.now c.loop-found.files c.find_entry.new.files c.loop-found.invariant.after c.find_entry.ensures.after

pub returns-in_err-found-clause-errors : goal.returns-in_err-found-clause-errors
returns-in_err-found-clause-errors g c = if_err_passed c.from_residual.result c.in_err-found.field-0.0 _ c.from_residual.ensures.1 c.in_err-found.ensures.errors

pub returns-in_err-bytes-clause-log : goal.returns-in_err-bytes-clause-log
returns-in_err-bytes-clause-log g c i = c.read.ensures.nothing_written.seen_same Log i ∙ c.find_entry.ensures.nothing_written.seen_same Log i ∙ c.loop-found.invariant.log i

pub returns-in_err-bytes-clause-records : goal.returns-in_err-bytes-clause-records
returns-in_err-bytes-clause-records g c honest patches log = on_ok_none c.from_residual-in_err-bytes.result _ c.from_residual-in_err-bytes.ensures.0

pub returns-in_err-bytes-clause-crash : goal.returns-in_err-bytes-clause-crash
returns-in_err-bytes-clause-crash g c honest patches log f now = c.loop-found.invariant.crash (c.find_entry.ensures.after.honest (c.read.ensures.after.honest honest)) patches log f (c.find_entry.ensures.nothing_written.leaves f (c.read.ensures.nothing_written.leaves f now))

pub returns-in_err-bytes-clause-moments : goal.returns-in_err-bytes-clause-moments
returns-in_err-bytes-clause-moments g c honest patches log =
    let was = c.find_entry.ensures.after.honest (c.read.ensures.after.honest honest) in
    let both = nothing_more_written g.F.FilePair.model c.loop-found.files c.find_entry.new.files c.read.new.files c.find_entry.ensures.nothing_written c.read.ensures.nothing_written in
    then_leaves g.F.FilePair.model c.args.files.now c.loop-found.files c.read.new.files (Smears patches (g.F.FilePair.model.may_leave c.args.files.now)) (g.F.FilePair.model.may_leave c.loop-found.files) (c.loop-found.invariant.moments was patches log) both.moments (c.loop-found.invariant.crash was patches log)

pub returns-in_err-bytes-clause-damaged : goal.returns-in_err-bytes-clause-damaged
returns-in_err-bytes-clause-damaged g c honest patches log is = not_damaged c.from_residual-in_err-bytes.result ⊥ (if_err_passed c.from_residual-in_err-bytes.result c.in_err-bytes.field-0.0 _ c.from_residual-in_err-bytes.ensures.1 c.in_err-bytes.ensures.errors) is

pub returns-in_err-bytes-clause-failed : goal.returns-in_err-bytes-clause-failed
returns-in_err-bytes-clause-failed g c is = if_of_passed c.from_residual-in_err-bytes.result c.in_err-bytes.field-0.0 Failed _ c.from_residual-in_err-bytes.ensures.1 (λ of. failed_last g.F.FilePair.model c.args.files.now c.find_entry.new.files c.read.new.files (after_then g.F.FilePair.model c.args.files.now c.loop-found.files c.find_entry.new.files c.loop-found.invariant.after c.find_entry.ensures.after) (c.in_err-bytes.ensures.failed of)) is

pub returns-in_err-bytes-clause-after : goal.returns-in_err-bytes-clause-after
returns-in_err-bytes-clause-after g c = after_then g.F.FilePair.model c.args.files.now c.find_entry.new.files c.read.new.files (after_then g.F.FilePair.model c.args.files.now c.loop-found.files c.find_entry.new.files c.loop-found.invariant.after c.find_entry.ensures.after) c.read.ensures.after

pub returns-in_err-bytes-clause-errors : goal.returns-in_err-bytes-clause-errors
returns-in_err-bytes-clause-errors g c = if_err_passed c.from_residual-in_err-bytes.result c.in_err-bytes.field-0.0 _ c.from_residual-in_err-bytes.ensures.1 (⊎_elim (λ memory. inl memory) (λ failed. inr (inl failed)) c.in_err-bytes.ensures.errors)

pub returns-then-is_err-clause-log : goal.returns-then-is_err-clause-log
returns-then-is_err-clause-log g c i = c.write_at.ensures.torn.other i ∙ c.read.ensures.nothing_written.seen_same Log i ∙ c.find_entry.ensures.nothing_written.seen_same Log i ∙ c.loop-found.invariant.log i

pub returns-then-is_err-clause-records : goal.returns-then-is_err-clause-records
returns-then-is_err-clause-records g c honest patches log = tt

pub returns-then-is_err-clause-damaged : goal.returns-then-is_err-clause-damaged
returns-then-is_err-clause-damaged g c honest patches log is = failed_not_damaged ⊥ is

pub returns-then-is_err-clause-failed : goal.returns-then-is_err-clause-failed
returns-then-is_err-clause-failed g c is = failed_last g.F.FilePair.model c.args.files.now c.read.new.files c.write_at.new.self (after_then g.F.FilePair.model c.args.files.now c.find_entry.new.files c.read.new.files (after_then g.F.FilePair.model c.args.files.now c.loop-found.files c.find_entry.new.files c.loop-found.invariant.after c.find_entry.ensures.after) c.read.ensures.after) (has_failed g.F.FilePair.model c.write_at.result c.read.new.files c.write_at.new.self (sym c.if-is_err.ensures.value) c.write_at.ensures.errors c.write_at.ensures.cause)

pub returns-then-is_err-clause-after : goal.returns-then-is_err-clause-after
returns-then-is_err-clause-after g c = after_then g.F.FilePair.model c.args.files.now c.read.new.files c.write_at.new.self (after_then g.F.FilePair.model c.args.files.now c.find_entry.new.files c.read.new.files (after_then g.F.FilePair.model c.args.files.now c.loop-found.files c.find_entry.new.files c.loop-found.invariant.after c.find_entry.ensures.after) c.read.ensures.after) c.write_at.ensures.after

pub returns-then-is_err-clause-errors : goal.returns-then-is_err-clause-errors
returns-then-is_err-clause-errors g c = inr (inl refl)

pub returns-clause-log : goal.returns-clause-log
returns-clause-log g c i = c.find_entry.ensures.nothing_written.seen_same Log i ∙ c.loop-found.invariant.log i

pub returns-clause-crash : goal.returns-clause-crash
returns-clause-crash g c honest patches log f now = c.loop-found.invariant.crash (c.find_entry.ensures.after.honest honest) patches log f (c.find_entry.ensures.nothing_written.leaves f now)

pub returns-clause-moments : goal.returns-clause-moments
returns-clause-moments g c honest patches log =
    let was = c.find_entry.ensures.after.honest honest in
    then_leaves g.F.FilePair.model c.args.files.now c.loop-found.files c.find_entry.new.files (Smears patches (g.F.FilePair.model.may_leave c.args.files.now)) (g.F.FilePair.model.may_leave c.loop-found.files) (c.loop-found.invariant.moments was patches log) c.find_entry.ensures.nothing_written.moments (c.loop-found.invariant.crash was patches log)

pub returns-clause-damaged : goal.returns-clause-damaged
returns-clause-damaged g c honest patches log is = no_error tt Damaged ⊥ is

pub returns-clause-failed : goal.returns-clause-failed
returns-clause-failed g c is = no_error tt Failed _ is

pub returns-clause-after : goal.returns-clause-after
returns-clause-after g c = after_then g.F.FilePair.model c.args.files.now c.loop-found.files c.find_entry.new.files c.loop-found.invariant.after c.find_entry.ensures.after

pub returns-clause-errors : goal.returns-clause-errors
returns-clause-errors g c = tt
