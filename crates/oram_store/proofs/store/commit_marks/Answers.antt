use Rattle.std.proofs.Common.{◌≡◌, length, List, sym, subst, ap, ◌∙◌, arith}
use Rattle.std.specs.Prelude.{All}
use Rattle.oram_layout.specs.Changes.{marks}
use Rattle.oram_redo.specs.Batch.{patches_of}
use Rattle.oram_redo.specs.Log.{Fits, Patch, entries}
use Rattle.oram_store.specs.RecordFile.{bounds}
use Rattle.oram_store.proofs.Crashes.{commits_none, runs_none}
use Rattle.oram_redo.proofs.Outcomes.{on_ok_none}
use Rattle.oram_store.proofs.Outcomes.{calls_memory}
use Rattle.oram_store.proofs.BatchBytes.{length-marks, marks_fit}
use Rattle.oram_store.proofs.store.commit_marks.Goals as goal

pub returns-in_err-batch-clause-commits : goal.returns-in_err-batch-clause-commits
returns-in_err-batch-clause-commits g c =
    commits_none g.F.FilePair.model (marks c.args.cells.now) c.args.file.now c.from_residual.result
    c.from_residual.ensures.0 (g.met.F.FilePair.only_now c.args.file.now.files)

pub commit-requires-clause-fits : goal.commit-requires-clause-fits
commit-requires-clause-fits g c =
    let is : patches_of c.deref.result.now ≡ marks c.args.cells.now = ap patches_of c.deref.ensures.value ∙ c.in_ok-batch.ensures in
    subst (λ (ps : List Patch). All (Fits bounds) ps) (sym is) (marks_fit c.args.cells.now c.requires.within)

pub commit-requires-clause-short : goal.commit-requires-clause-short
commit-requires-clause-short g c =
    let is : patches_of c.deref.result.now ≡ marks c.args.cells.now = ap patches_of c.deref.ensures.value ∙ c.in_ok-batch.ensures in
    omega (arith, ap (λ (ps : List Patch). length (entries ps)) is, length-marks c.args.cells.now, c.requires.few)

pub returns-in_err-batch-clause-calls : goal.returns-in_err-batch-clause-calls
returns-in_err-batch-clause-calls g c = calls_memory g.F.FilePair.model c.from_residual.result c.args.file.now c.args.file.now c.from_residual.ensures.1 (runs_none g.F.FilePair.model c.args.file.now)

pub returns-in_err-batch-clause-running : goal.returns-in_err-batch-clause-running
returns-in_err-batch-clause-running g c = on_ok_none c.from_residual.result _ c.from_residual.ensures.0

pub returns-clause-calls : goal.returns-clause-calls
returns-clause-calls g c = c.commit.ensures.calls

pub returns-clause-running : goal.returns-clause-running
returns-clause-running g c = c.commit.ensures.running
