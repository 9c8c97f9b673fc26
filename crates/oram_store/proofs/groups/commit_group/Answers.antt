use Rattle.std.proofs.Common.{◌≡◌, length, List, sym, subst, ap, ◌∙◌, arith}
use Rattle.std.specs.Prelude.{All}
use Rattle.oram_redo.specs.Batch.{patches_of}
use Rattle.oram_redo.specs.Log.{Fits, Patch, entries}
use Rattle.oram_store.specs.Groups.{group_patches}
use Rattle.oram_store.specs.RecordFile.{Commits, bounds}
use Rattle.oram_store.proofs.Crashes.{commits_none, runs_none}
use Rattle.oram_redo.proofs.Outcomes.{on_ok_none}
use Rattle.oram_store.proofs.Outcomes.{calls_memory}
use Rattle.oram_store.proofs.GroupBytes.{group_fits, group_short}
use Rattle.oram_store.proofs.groups.commit_group.Goals as goal

pub returns-in_err-cells-clause-commits : goal.returns-in_err-cells-clause-commits
returns-in_err-cells-clause-commits g c =
    commits_none g.F.FilePair.model (group_patches c.args.changes.now) c.args.file.now c.from_residual.result c.from_residual.ensures.0 (g.met.F.FilePair.only_now c.args.file.now.files)

pub returns-in_err-batch-clause-commits : goal.returns-in_err-batch-clause-commits
returns-in_err-batch-clause-commits g c =
    commits_none g.F.FilePair.model (group_patches c.args.changes.now) c.args.file.now c.from_residual-in_err-batch.result c.from_residual-in_err-batch.ensures.0 (g.met.F.FilePair.only_now c.args.file.now.files)

pub commit-requires-clause-fits : goal.commit-requires-clause-fits
commit-requires-clause-fits g c =
    let is : patches_of c.deref-2.result.now ≡ group_patches c.args.changes.now = ap patches_of c.deref-2.ensures.value ∙ c.in_ok-batch.ensures in
    subst (λ (ps : List Patch). All (Fits bounds) ps) (sym is) (group_fits c.args.changes.now c.requires.fits)

pub commit-requires-clause-short : goal.commit-requires-clause-short
commit-requires-clause-short g c =
    let is : patches_of c.deref-2.result.now ≡ group_patches c.args.changes.now = ap patches_of c.deref-2.ensures.value ∙ c.in_ok-batch.ensures in
    omega (arith, ap (λ (ps : List Patch). length (entries ps)) is, group_short c.args.changes.now c.requires.fits c.requires.few)

pub returns-in_err-cells-clause-calls : goal.returns-in_err-cells-clause-calls
returns-in_err-cells-clause-calls g c = calls_memory g.F.FilePair.model c.from_residual.result c.args.file.now c.args.file.now c.from_residual.ensures.1 (runs_none g.F.FilePair.model c.args.file.now)

pub returns-in_err-cells-clause-running : goal.returns-in_err-cells-clause-running
returns-in_err-cells-clause-running g c = on_ok_none c.from_residual.result _ c.from_residual.ensures.0

pub returns-in_err-batch-clause-calls : goal.returns-in_err-batch-clause-calls
returns-in_err-batch-clause-calls g c = calls_memory g.F.FilePair.model c.from_residual-in_err-batch.result c.args.file.now c.args.file.now c.from_residual-in_err-batch.ensures.1 (runs_none g.F.FilePair.model c.args.file.now)

pub returns-in_err-batch-clause-running : goal.returns-in_err-batch-clause-running
returns-in_err-batch-clause-running g c = on_ok_none c.from_residual-in_err-batch.result _ c.from_residual-in_err-batch.ensures.0

pub returns-clause-commits : goal.returns-clause-commits
returns-clause-commits g c =
    let is : patches_of c.deref-2.result.now ≡ group_patches c.args.changes.now = ap patches_of c.deref-2.ensures.value ∙ c.in_ok-batch.ensures in
    subst (λ (ps : List Patch). Commits g.F.FilePair.model ps c.commit.result c.args.file.now c.commit.new.self) is c.commit.ensures.commits

pub returns-clause-calls : goal.returns-clause-calls
returns-clause-calls g c = c.commit.ensures.calls

pub returns-clause-running : goal.returns-clause-running
returns-clause-running g c = c.commit.ensures.running
