use Rattle.std.proofs.Common.{List, ℕ, refl, ap, subst, Ok, Err, Some}
use Rattle.oram_layout.specs.Changes.{marks}
use Rattle.oram_store.specs.Crashes.{CommitsPuts}
use Rattle.oram_store.specs.KeptRecords.{IsSound, StoreValue}
use Rattle.oram_store.specs.RecordFile.{Calls, Commits}
use Rattle.oram_store.proofs.Crashes.{runs_none}
use Rattle.oram_store.proofs.CommittedPuts.{commits_puts_by, commits_puts_none}
use Rattle.oram_store.proofs.store.FileStore.commit_puts.Goals as goal

pub returns-then-is_empty-clause-commits_puts : goal.returns-then-is_empty-clause-commits_puts
returns-then-is_empty-clause-commits_puts g c s =
    commits_puts_none g.F.FilePair.model c.args.self.now s (g.met.F.FilePair.only_now c.args.self.now.file.files)

pub returns-in-Ok-clause-commits_puts : goal.returns-in-Ok-clause-commits_puts
returns-in-Ok-clause-commits_puts g c =
    let new : StoreValue g.row.F.Denot = record { file = c.commit_marks.new.file; trees = c.self.inside.trees.items; pending = c.clear.new.self.items; failure = c.self.inside.failure } in
    subst (λ (v : StoreValue g.row.F.Denot). IsSound g.F.FilePair.model v → CommitsPuts g.F.FilePair.model v new) c.self.view_is
    (λ s. commits_puts_by g.F.FilePair.model _ new (Ok c.in-Ok.field-0) s
    (subst (λ (cells : List ℕ). Commits g.F.FilePair.model (marks cells) (Ok c.in-Ok.field-0) c.self.inside.file c.commit_marks.new.file) c.deref.ensures.value c.in-Ok.ensures.commits)
    refl c.clear.ensures.items tt)

pub returns-in-Err-clause-commits_puts : goal.returns-in-Err-clause-commits_puts
returns-in-Err-clause-commits_puts g c =
    let new : StoreValue g.row.F.Denot = record { file = c.commit_marks.new.file; trees = c.self.inside.trees.items; pending = c.self.inside.pending.items; failure = Some c.in-Err.fault } in
    subst (λ (v : StoreValue g.row.F.Denot). IsSound g.F.FilePair.model v → CommitsPuts g.F.FilePair.model v new) c.self.view_is
    (λ s. commits_puts_by g.F.FilePair.model _ new (Err c.in-Err.fault) s
    (subst (λ (cells : List ℕ). Commits g.F.FilePair.model (marks cells) (Err c.in-Err.fault) c.self.inside.file c.commit_marks.new.file) c.deref.ensures.value c.in-Err.ensures.commits)
    refl tt refl)

pub returns-then-is_empty-clause-calls : goal.returns-then-is_empty-clause-calls
returns-then-is_empty-clause-calls g c = record { runs = runs_none g.F.FilePair.model c.args.self.now.file; goes_on = refl; reason = tt }

pub returns-in-Ok-clause-calls : goal.returns-in-Ok-clause-calls
returns-in-Ok-clause-calls g c =
    subst (λ (v : StoreValue g.row.F.Denot). Calls g.F.FilePair.model (Ok c.in-Ok.field-0) v.file c.commit_marks.new.file) c.self.view_is c.in-Ok.ensures.calls

pub returns-in-Err-clause-calls : goal.returns-in-Err-clause-calls
returns-in-Err-clause-calls g c =
    subst (λ (v : StoreValue g.row.F.Denot). Calls g.F.FilePair.model (Err c.in-Err.fault) v.file c.commit_marks.new.file) c.self.view_is c.in-Err.ensures.calls

pub returns-in-Ok-clause-trees : goal.returns-in-Ok-clause-trees
returns-in-Ok-clause-trees g c = ap (λ (v : StoreValue g.row.F.Denot). v.trees) c.self.view_is

pub returns-in-Err-clause-trees : goal.returns-in-Err-clause-trees
returns-in-Err-clause-trees g c = ap (λ (v : StoreValue g.row.F.Denot). v.trees) c.self.view_is
