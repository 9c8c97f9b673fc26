use Rattle.std.proofs.Common.{[], ◌∷◌}
use Rattle.oram_layout.specs.Changes.{record_patch}
use Rattle.oram_store.proofs.Crashes.{commits_none, runs_none}
use Rattle.oram_redo.proofs.Outcomes.{on_ok_none}
use Rattle.oram_store.proofs.Outcomes.{calls_memory}
use Rattle.oram_store.proofs.store.commit_record.Goals as goal

pub returns-in_err-cell-clause-commits : goal.returns-in_err-cell-clause-commits
returns-in_err-cell-clause-commits g c =
    commits_none g.F.FilePair.model (record_patch c.args.tree.now c.args.node c.args.bytes.now ∷ []) c.args.file.now c.from_residual.result
    c.from_residual.ensures.0 (g.met.F.FilePair.only_now c.args.file.now.files)

pub returns-in_err-cell-clause-calls : goal.returns-in_err-cell-clause-calls
returns-in_err-cell-clause-calls g c = calls_memory g.F.FilePair.model c.from_residual.result c.args.file.now c.args.file.now c.from_residual.ensures.1 (runs_none g.F.FilePair.model c.args.file.now)

pub returns-in_err-cell-clause-running : goal.returns-in_err-cell-clause-running
returns-in_err-cell-clause-running g c = on_ok_none c.from_residual.result _ c.from_residual.ensures.0

pub returns-clause-calls : goal.returns-clause-calls
returns-clause-calls g c = c.commit_one.ensures.calls

pub returns-clause-running : goal.returns-clause-running
returns-clause-running g c = c.commit_one.ensures.running
