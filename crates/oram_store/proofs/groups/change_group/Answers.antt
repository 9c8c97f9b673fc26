use Rattle.std.specs.Prelude.{map}
use Rattle.oram_layout.specs.Records.{Records as RecordsOf}
use Rattle.oram_redo.specs.declared.file_pair.FileKind.TheVariants.{Records}
use Rattle.oram_wire.specs.declared.host_messages.HostAnswer.TheVariants.{Done}
use Rattle.oram_store.specs.Groups.{AnswersInTurn, group_patches, message_of}
use Rattle.oram_store.proofs.Crashes.{calls_then}
use Rattle.oram_redo.proofs.Outcomes.{on_ok_none}
use Rattle.oram_store.proofs.Together.{group_put, in_turn_keeps}
use Rattle.oram_store.proofs.Outcomes.{calls_passed}
use Rattle.oram_store.proofs.Sound.{changes_err, changes_then, commits_change}
use Rattle.oram_store.proofs.groups.change_group.Goals as goal

pub returns-in_err-write_missing_of_group-clause-changes : goal.returns-in_err-write_missing_of_group-clause-changes
returns-in_err-write_missing_of_group-clause-changes g c trees of sound honest =
    changes_err g.F.FilePair.model trees (λ one two. AnswersInTurn trees one (map message_of c.args.changes.now) Done two) c.from_residual.result
    c.args.file.now c.write_missing_of_group.new.file c.from_residual.ensures.0 (c.write_missing_of_group.ensures.kept trees of sound honest)

pub returns-clause-changes : goal.returns-clause-changes
returns-clause-changes g c trees of sound honest =
    let mid = c.write_missing_of_group.new.file in
    let change = λ (one two : RecordsOf). AnswersInTurn trees one (map message_of c.args.changes.now) Done two in
    changes_then g.F.FilePair.model trees change c.commit_group.result
    c.args.file.now mid c.commit_group.new.file (λ one two three kept said. in_turn_keeps trees one two three (map message_of c.args.changes.now) Done kept said)
    (c.write_missing_of_group.ensures.kept trees of sound (c.commit_group.ensures.calls.runs.after.honest honest))
    (λ mid_sound. commits_change g.F.FilePair.model trees change (group_patches c.args.changes.now) c.commit_group.result mid c.commit_group.new.file mid_sound c.commit_group.ensures.commits
    (λ made agrees. group_put trees c.args.changes.now (g.F.FilePair.model.seen mid.files Records) made mid_sound.file c.requires.fits of agrees))
    c.commit_group.ensures.calls.runs.stays (g.met.F.FilePair.counts_now mid.files) (g.met.F.FilePair.whole mid.files)

pub returns-in_err-write_missing_of_group-clause-calls : goal.returns-in_err-write_missing_of_group-clause-calls
returns-in_err-write_missing_of_group-clause-calls g c =
    calls_passed g.F.FilePair.model c.from_residual.result c.in_err-write_missing_of_group.field-0.0 c.args.file.now c.write_missing_of_group.new.file c.from_residual.ensures.1 c.in_err-write_missing_of_group.ensures.calls

pub returns-in_err-write_missing_of_group-clause-running : goal.returns-in_err-write_missing_of_group-clause-running
returns-in_err-write_missing_of_group-clause-running g c = on_ok_none c.from_residual.result _ c.from_residual.ensures.0

pub returns-clause-calls : goal.returns-clause-calls
returns-clause-calls g c =
    calls_then g.F.FilePair.model c.commit_group.result c.args.file.now c.write_missing_of_group.new.file c.commit_group.new.file
    c.write_missing_of_group.ensures.calls.runs c.in_ok-write_missing_of_group.ensures.calls.goes_on c.commit_group.ensures.calls

pub returns-clause-running : goal.returns-clause-running
returns-clause-running g c = c.commit_group.ensures.running
