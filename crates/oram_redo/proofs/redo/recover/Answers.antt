use Rattle.oram_redo.specs.declared.faults.RedoError.TheVariants.{Damaged, Failed}
use Rattle.oram_redo.proofs.Outcomes.{after_then, failed_last, if_err_passed, if_of_passed, if_ok_none, no_error, on_ok_none}
use Rattle.std.proofs.Common.{◌⊎◌, inl, inr, ℕ, subst, sym, ◌∙◌, refl}
use Rattle.std.proofs.lemmas.Result.{err_from_is_err_and}
use Rattle.oram_redo.specs.Content.{Content}
use Rattle.oram_redo.specs.FilePair.{Contents, Same}
use Rattle.oram_redo.specs.Log.{StandsAlike, IsLog}
use Rattle.oram_redo.specs.declared.file_pair.FileKind.TheVariants.{Records, Log}
use Rattle.oram_redo.proofs.Moments.{same_content, leads_to, then_leaves, nothing_more_written}
use Rattle.oram_redo.proofs.LogReads.{odd_along}
use Rattle.oram_redo.proofs.Recovered.{alike, stands, consistent}
use Rattle.oram_redo.proofs.redo.recover.Goals as goal

pub returns-in_err-replay-clause-any_moment : goal.returns-in_err-replay-clause-any_moment
returns-in_err-replay-clause-any_moment g c honest =
    let found = c.in_ok-end.ensures.end (c.replay.ensures.after.honest honest) in
    let synced = c.sync_both.ensures.nothing_written in
    let read = c.sound_end.ensures.nothing_written in
    let seen = g.F.FilePair.model.seen c.args.files.now in
    let mid = g.F.FilePair.model.seen c.sound_end.new.files in
    let same : Same mid seen = λ file i. read.seen_same file i ∙ synced.seen_same file i in
    let log = subst (λ (l : Content). IsLog c.args.bounds found.0 l) (same_content _ (seen Log) (λ i. synced.seen_same Log i)) found.1 in
    let log_mid = subst (λ (l : Content). IsLog c.args.bounds found.0 l) (sym (same_content (mid Log) (seen Log) (same Log))) log in
    let sure_log = λ (d : Contents) (now : g.F.FilePair.model.may_leave c.sound_end.new.files d) (i : ℕ). c.in_ok-sync_both.ensures.log d (read.leaves d now) i ∙ synced.seen_same Log i in
    let sure_records = λ (d : Contents) (now : g.F.FilePair.model.may_leave c.sound_end.new.files d) (i : ℕ). c.in_ok-sync_both.ensures.records d (read.leaves d now) i ∙ synced.seen_same Records i in
    let P : Contents → Type 0 = λ f. g.F.FilePair.model.may_leave c.args.files.now f ⊎ StandsAlike c.args.bounds seen f in
    let at_sync = leads_to g.F.FilePair.model c.args.files.now c.sync_both.new.files _ P synced.moments (λ f was. inl was) in
    let at_end = then_leaves g.F.FilePair.model c.args.files.now c.sync_both.new.files c.sound_end.new.files P _ at_sync read.moments (λ f was. inl (synced.leaves f was)) in
    then_leaves g.F.FilePair.model c.args.files.now c.sound_end.new.files c.replay.new.files P _ at_end (c.replay.ensures.moments honest found.0 log_mid)
    (λ f smeared. inr (alike c.args.bounds found.0 seen mid _ same log sure_log sure_records f smeared))

pub returns-in_err-replay-clause-untouched : goal.returns-in_err-replay-clause-untouched
returns-in_err-replay-clause-untouched g c honest is =
    let found = c.in_ok-end.ensures.end (c.replay.ensures.after.honest honest) in
    let read = c.sound_end.ensures.nothing_written in
    let log_mid = subst (λ (l : Content). IsLog c.args.bounds found.0 l) (sym (same_content _ _ (λ i. read.seen_same Log i))) found.1 in
    let p = err_from_is_err_and c.from_residual-in_err-replay.result c.from_residual-in_err-replay.ensures.1 in
    absurd (c.in_err-replay.ensures.damaged honest found.0 log_mid (cc (p.1, p.2, is)))

pub returns-clause-records : goal.returns-clause-records
returns-clause-records g c honest =
    let found = c.in_ok-end.ensures.end (c.replay.ensures.after.honest honest) in
    let synced = c.sync_both.ensures.nothing_written in
    let read = c.sound_end.ensures.nothing_written in
    let seen = g.F.FilePair.model.seen c.args.files.now in
    let mid = g.F.FilePair.model.seen c.sound_end.new.files in
    let same : Same mid seen = λ file i. read.seen_same file i ∙ synced.seen_same file i in
    let log = subst (λ (l : Content). IsLog c.args.bounds found.0 l) (same_content _ (seen Log) (λ i. synced.seen_same Log i)) found.1 in
    let log_mid = subst (λ (l : Content). IsLog c.args.bounds found.0 l) (sym (same_content (mid Log) (seen Log) (same Log))) log in
    let sure_log = λ (d : Contents) (now : g.F.FilePair.model.may_leave c.sound_end.new.files d) (i : ℕ). c.in_ok-sync_both.ensures.log d (read.leaves d now) i ∙ synced.seen_same Log i in
    let sure_records = λ (d : Contents) (now : g.F.FilePair.model.may_leave c.sound_end.new.files d) (i : ℕ). c.in_ok-sync_both.ensures.records d (read.leaves d now) i ∙ synced.seen_same Records i in
    stands c.args.bounds found.0 seen mid _ same log sure_log sure_records (g.F.FilePair.model.seen c.replay.new.files) (c.in_ok-replay.ensures.records honest found.0 log_mid)

pub returns-clause-consistent : goal.returns-clause-consistent
returns-clause-consistent g c honest =
    let found = c.in_ok-end.ensures.end (c.replay.ensures.after.honest honest) in
    let synced = c.sync_both.ensures.nothing_written in
    let read = c.sound_end.ensures.nothing_written in
    let seen = g.F.FilePair.model.seen c.args.files.now in
    let mid = g.F.FilePair.model.seen c.sound_end.new.files in
    let same : Same mid seen = λ file i. read.seen_same file i ∙ synced.seen_same file i in
    let log = subst (λ (l : Content). IsLog c.args.bounds found.0 l) (same_content _ (seen Log) (λ i. synced.seen_same Log i)) found.1 in
    let log_mid = subst (λ (l : Content). IsLog c.args.bounds found.0 l) (sym (same_content (mid Log) (seen Log) (same Log))) log in
    let sure_log = λ (d : Contents) (now : g.F.FilePair.model.may_leave c.sound_end.new.files d) (i : ℕ). c.in_ok-sync_both.ensures.log d (read.leaves d now) i ∙ synced.seen_same Log i in
    let sure_records = λ (d : Contents) (now : g.F.FilePair.model.may_leave c.sound_end.new.files d) (i : ℕ). c.in_ok-sync_both.ensures.records d (read.leaves d now) i ∙ synced.seen_same Records i in
    consistent c.args.bounds found.0 seen mid _ same log sure_log sure_records _ (c.in_ok-replay.ensures.records honest found.0 log_mid)
    c.in_ok-end.end _ found.2 c.replay.ensures.log (c.replay.ensures.crash honest found.0 log_mid)

pub returns-clause-any_moment : goal.returns-clause-any_moment
returns-clause-any_moment g c honest =
    let found = c.in_ok-end.ensures.end (c.replay.ensures.after.honest honest) in
    let synced = c.sync_both.ensures.nothing_written in
    let read = c.sound_end.ensures.nothing_written in
    let seen = g.F.FilePair.model.seen c.args.files.now in
    let mid = g.F.FilePair.model.seen c.sound_end.new.files in
    let same : Same mid seen = λ file i. read.seen_same file i ∙ synced.seen_same file i in
    let log = subst (λ (l : Content). IsLog c.args.bounds found.0 l) (same_content _ (seen Log) (λ i. synced.seen_same Log i)) found.1 in
    let log_mid = subst (λ (l : Content). IsLog c.args.bounds found.0 l) (sym (same_content (mid Log) (seen Log) (same Log))) log in
    let sure_log = λ (d : Contents) (now : g.F.FilePair.model.may_leave c.sound_end.new.files d) (i : ℕ). c.in_ok-sync_both.ensures.log d (read.leaves d now) i ∙ synced.seen_same Log i in
    let sure_records = λ (d : Contents) (now : g.F.FilePair.model.may_leave c.sound_end.new.files d) (i : ℕ). c.in_ok-sync_both.ensures.records d (read.leaves d now) i ∙ synced.seen_same Records i in
    let P : Contents → Type 0 = λ f. g.F.FilePair.model.may_leave c.args.files.now f ⊎ StandsAlike c.args.bounds seen f in
    let at_sync = leads_to g.F.FilePair.model c.args.files.now c.sync_both.new.files _ P synced.moments (λ f was. inl was) in
    let at_end = then_leaves g.F.FilePair.model c.args.files.now c.sync_both.new.files c.sound_end.new.files P _ at_sync read.moments (λ f was. inl (synced.leaves f was)) in
    then_leaves g.F.FilePair.model c.args.files.now c.sound_end.new.files c.replay.new.files P _ at_end (c.replay.ensures.moments honest found.0 log_mid)
    (λ f smeared. inr (alike c.args.bounds found.0 seen mid _ same log sure_log sure_records f smeared))

pub returns-in_err-sync_both-clause-records : goal.returns-in_err-sync_both-clause-records
returns-in_err-sync_both-clause-records g c = on_ok_none c.from_residual.result _ c.from_residual.ensures.0

pub returns-in_err-sync_both-clause-consistent : goal.returns-in_err-sync_both-clause-consistent
returns-in_err-sync_both-clause-consistent g c = if_ok_none c.from_residual.result _ c.from_residual.ensures.0

pub returns-in_err-sync_both-clause-bounds : goal.returns-in_err-sync_both-clause-bounds
returns-in_err-sync_both-clause-bounds g c = if_ok_none c.from_residual.result _ c.from_residual.ensures.0

pub returns-in_err-end-clause-records : goal.returns-in_err-end-clause-records
returns-in_err-end-clause-records g c = on_ok_none c.from_residual-in_err-end.result _ c.from_residual-in_err-end.ensures.0

pub returns-in_err-end-clause-consistent : goal.returns-in_err-end-clause-consistent
returns-in_err-end-clause-consistent g c = if_ok_none c.from_residual-in_err-end.result _ c.from_residual-in_err-end.ensures.0

pub returns-in_err-end-clause-bounds : goal.returns-in_err-end-clause-bounds
returns-in_err-end-clause-bounds g c = if_ok_none c.from_residual-in_err-end.result _ c.from_residual-in_err-end.ensures.0

pub returns-in_err-replay-clause-records : goal.returns-in_err-replay-clause-records
returns-in_err-replay-clause-records g c = on_ok_none c.from_residual-in_err-replay.result _ c.from_residual-in_err-replay.ensures.0

pub returns-in_err-replay-clause-consistent : goal.returns-in_err-replay-clause-consistent
returns-in_err-replay-clause-consistent g c = if_ok_none c.from_residual-in_err-replay.result _ c.from_residual-in_err-replay.ensures.0

pub returns-in_err-replay-clause-bounds : goal.returns-in_err-replay-clause-bounds
returns-in_err-replay-clause-bounds g c = if_ok_none c.from_residual-in_err-replay.result _ c.from_residual-in_err-replay.ensures.0

pub returns-in_err-sync_both-clause-log : goal.returns-in_err-sync_both-clause-log
returns-in_err-sync_both-clause-log g c i = c.sync_both.ensures.nothing_written.seen_same Log i

pub returns-in_err-sync_both-clause-failed : goal.returns-in_err-sync_both-clause-failed
returns-in_err-sync_both-clause-failed g c is = c.in_err-sync_both.ensures.failed.1

pub returns-in_err-sync_both-clause-after : goal.returns-in_err-sync_both-clause-after
returns-in_err-sync_both-clause-after g c = c.sync_both.ensures.after

pub returns-in_err-sync_both-clause-errors : goal.returns-in_err-sync_both-clause-errors
returns-in_err-sync_both-clause-errors g c = if_err_passed c.from_residual.result c.in_err-sync_both.field-0.0 _ c.from_residual.ensures.1 (inr (inl c.in_err-sync_both.ensures.failed.0))

pub returns-in_err-end-clause-log : goal.returns-in_err-end-clause-log
returns-in_err-end-clause-log g c i = c.sound_end.ensures.nothing_written.seen_same Log i ∙ c.sync_both.ensures.nothing_written.seen_same Log i

pub returns-in_err-end-clause-failed : goal.returns-in_err-end-clause-failed
returns-in_err-end-clause-failed g c is = if_of_passed c.from_residual-in_err-end.result c.in_err-end.field-0.0 Failed _ c.from_residual-in_err-end.ensures.1 (λ of. failed_last g.F.FilePair.model c.args.files.now c.sync_both.new.files c.sound_end.new.files c.sync_both.ensures.after (c.in_err-end.ensures.failed of)) is

pub returns-in_err-end-clause-after : goal.returns-in_err-end-clause-after
returns-in_err-end-clause-after g c = after_then g.F.FilePair.model c.args.files.now c.sync_both.new.files c.sound_end.new.files c.sync_both.ensures.after c.sound_end.ensures.after

pub returns-in_err-end-clause-errors : goal.returns-in_err-end-clause-errors
returns-in_err-end-clause-errors g c = if_err_passed c.from_residual-in_err-end.result c.in_err-end.field-0.0 _ c.from_residual-in_err-end.ensures.1 c.in_err-end.ensures.errors

pub returns-in_err-end-clause-untouched : goal.returns-in_err-end-clause-untouched
returns-in_err-end-clause-untouched g c honest is = nothing_more_written g.F.FilePair.model c.args.files.now c.sync_both.new.files c.sound_end.new.files c.sync_both.ensures.nothing_written c.sound_end.ensures.nothing_written

pub returns-in_err-replay-clause-log : goal.returns-in_err-replay-clause-log
returns-in_err-replay-clause-log g c i = c.replay.ensures.log i ∙ c.sound_end.ensures.nothing_written.seen_same Log i ∙ c.sync_both.ensures.nothing_written.seen_same Log i

pub returns-in_err-replay-clause-failed : goal.returns-in_err-replay-clause-failed
returns-in_err-replay-clause-failed g c is = if_of_passed c.from_residual-in_err-replay.result c.in_err-replay.field-0.0 Failed _ c.from_residual-in_err-replay.ensures.1 (λ of. failed_last g.F.FilePair.model c.args.files.now c.sound_end.new.files c.replay.new.files (after_then g.F.FilePair.model c.args.files.now c.sync_both.new.files c.sound_end.new.files c.sync_both.ensures.after c.sound_end.ensures.after) (c.in_err-replay.ensures.failed of)) is

pub returns-in_err-replay-clause-after : goal.returns-in_err-replay-clause-after
returns-in_err-replay-clause-after g c = after_then g.F.FilePair.model c.args.files.now c.sound_end.new.files c.replay.new.files (after_then g.F.FilePair.model c.args.files.now c.sync_both.new.files c.sound_end.new.files c.sync_both.ensures.after c.sound_end.ensures.after) c.replay.ensures.after

pub returns-in_err-replay-clause-errors : goal.returns-in_err-replay-clause-errors
returns-in_err-replay-clause-errors g c = if_err_passed c.from_residual-in_err-replay.result c.in_err-replay.field-0.0 _ c.from_residual-in_err-replay.ensures.1 c.in_err-replay.ensures.errors

pub returns-clause-bounds : goal.returns-clause-bounds
returns-clause-bounds g c = refl

pub returns-clause-log : goal.returns-clause-log
returns-clause-log g c i = c.replay.ensures.log i ∙ c.sound_end.ensures.nothing_written.seen_same Log i ∙ c.sync_both.ensures.nothing_written.seen_same Log i

pub returns-clause-damaged : goal.returns-clause-damaged
returns-clause-damaged g c honest is records whole = no_error _ Damaged _ is

pub returns-clause-untouched : goal.returns-clause-untouched
returns-clause-untouched g c honest is = no_error _ Damaged _ is

pub returns-clause-failed : goal.returns-clause-failed
returns-clause-failed g c is = no_error _ Failed _ is

pub returns-clause-after : goal.returns-clause-after
returns-clause-after g c = after_then g.F.FilePair.model c.args.files.now c.sound_end.new.files c.replay.new.files (after_then g.F.FilePair.model c.args.files.now c.sync_both.new.files c.sound_end.new.files c.sync_both.ensures.after c.sound_end.ensures.after) c.replay.ensures.after

pub returns-clause-errors : goal.returns-clause-errors
returns-clause-errors g c = tt

pub returns-clause-shut : goal.returns-clause-shut
returns-clause-shut g c honest odd =
    c.in_ok-end.ensures.shut (c.replay.ensures.after.honest honest) (odd_along c.args.bounds _ _ (λ i. sym (c.sync_both.ensures.nothing_written.seen_same Log i)) odd)
