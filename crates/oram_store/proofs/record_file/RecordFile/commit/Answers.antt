use Rattle.oram_redo.specs.Batch.{patches_of}
use Rattle.oram_store.proofs.Crashes.{calls_then, commits_err, commits_then}
use Rattle.oram_redo.proofs.Outcomes.{on_ok_none}
use Rattle.oram_store.proofs.Outcomes.{calls_passed}
use Rattle.oram_store.proofs.record_file.RecordFile.commit.Goals as goal

pub returns-in_err-make_sure-clause-commits : goal.returns-in_err-make_sure-clause-commits
returns-in_err-make_sure-clause-commits g c =
    commits_err g.F.FilePair.model (patches_of c.args.batch.now) c.args.self.now c.make_sure.new.self c.from_residual.result
    c.from_residual.ensures.0 c.make_sure.ensures.passes c.make_sure.ensures.same

pub returns-clause-commits : goal.returns-clause-commits
returns-clause-commits g c =
    let mid = c.make_sure.new.self in
    commits_then g.F.FilePair.model (patches_of c.args.batch.now) c.args.self.now mid c.commit_sure.new.self c.commit_sure.result
    c.make_sure.ensures.passes c.make_sure.ensures.same c.commit_sure.ensures.passes c.commit_sure.ensures.calls.runs.stays c.commit_sure.ensures.done c.commit_sure.ensures.undone
    (g.met.F.FilePair.counts_now mid.files) (g.met.F.FilePair.whole mid.files)

pub returns-in_err-make_sure-clause-calls : goal.returns-in_err-make_sure-clause-calls
returns-in_err-make_sure-clause-calls g c =
    calls_passed g.F.FilePair.model c.from_residual.result c.in_err-make_sure.field-0.0 c.args.self.now c.make_sure.new.self c.from_residual.ensures.1 c.in_err-make_sure.ensures.calls

pub returns-in_err-make_sure-clause-running : goal.returns-in_err-make_sure-clause-running
returns-in_err-make_sure-clause-running g c = on_ok_none c.from_residual.result _ c.from_residual.ensures.0

pub returns-clause-calls : goal.returns-clause-calls
returns-clause-calls g c =
    calls_then g.F.FilePair.model c.commit_sure.result c.args.self.now c.make_sure.new.self c.commit_sure.new.self
    c.make_sure.ensures.calls.runs c.in_ok-make_sure.ensures.calls.goes_on c.commit_sure.ensures.calls

pub returns-clause-running : goal.returns-clause-running
returns-clause-running g c = c.commit_sure.ensures.running
