use Rattle.std.proofs.Common.{◌≡◌, [], refl, sym, subst, ap, ◌∙◌}
use Rattle.std.specs.Prelude.{All, map}
use Rattle.oram_layout.specs.Trees.{Trees}
use Rattle.oram_store.specs.Answers.{answer_by}
use Rattle.oram_store.specs.Crashes.{CommitsPuts}
use Rattle.oram_store.specs.Groups.{IsOfTrees, ServesGroup, message_of}
use Rattle.oram_store.specs.KeptRecords.{StoreValue}
use Rattle.oram_store.specs.RecordFile.{Calls, Runs}
use Rattle.oram_store.proofs.Crashes.{calls_then}
use Rattle.oram_redo.proofs.Outcomes.{on_ok_holds, on_ok_none}
use Rattle.oram_store.proofs.Together.{group_err, group_made}
use Rattle.oram_store.proofs.Outcomes.{calls_passed}
use Rattle.oram_store.proofs.store.FileStore.commit_puts_and_change.Goals as goal

pub returns-in_err-commit_puts-clause-serves : goal.returns-in_err-commit_puts-clause-serves
returns-in_err-commit_puts-clause-serves g c of honest s =
    group_err g.F.FilePair.model (map message_of c.args.changes.now) c.from_residual.result c.args.self.now c.commit_puts.new.self
    c.from_residual.ensures.0 (c.commit_puts.ensures.commits_puts s)

pub returns-clause-serves : goal.returns-clause-serves
returns-clause-serves g c of honest s =
    let new : StoreValue g.row.F.Denot = record { file = c.change_group.new.file; trees = c.self.inside.trees.items; pending = c.self.inside.pending.items; failure = c.self.inside.failure } in
    let old = c.args.self.now in
    (subst (λ (mid : StoreValue g.row.F.Denot). CommitsPuts g.F.FilePair.model old mid → mid.pending ≡ [] → mid.trees ≡ old.trees
    → ServesGroup g.F.FilePair.model (map message_of c.args.changes.now) (answer_by c.change_group.result) old new) c.self.view_is
    (λ commits_puts none same.
    let here : All (IsOfTrees c.self.inside.trees.items) c.args.changes.now = subst (λ (t : Trees). All (IsOfTrees t) c.args.changes.now) (sym same) of in
    group_made g.F.FilePair.model (map message_of c.args.changes.now) old _ new c.change_group.result
    commits_puts none same refl refl
    (λ sound. c.change_group.ensures.changes c.self.inside.trees.items here sound.file honest)
    c.change_group.ensures.calls.runs.stays (g.met.F.FilePair.counts_now c.self.inside.file.files) (g.met.F.FilePair.whole c.self.inside.file.files)))
    (c.commit_puts.ensures.commits_puts s) c.in_ok-commit_puts.ensures.none_pending c.commit_puts.ensures.trees

pub returns-in_err-commit_puts-clause-none_pending : goal.returns-in_err-commit_puts-clause-none_pending
returns-in_err-commit_puts-clause-none_pending g c = on_ok_none c.from_residual.result _ c.from_residual.ensures.0

pub returns-in_err-commit_puts-clause-trees : goal.returns-in_err-commit_puts-clause-trees
returns-in_err-commit_puts-clause-trees g c = c.commit_puts.ensures.trees

pub returns-in_err-commit_puts-clause-calls : goal.returns-in_err-commit_puts-clause-calls
returns-in_err-commit_puts-clause-calls g c =
    calls_passed g.F.FilePair.model c.from_residual.result c.in_err-commit_puts.field-0.0 c.args.self.now.file c.commit_puts.new.self.file c.from_residual.ensures.1 c.in_err-commit_puts.ensures.calls

pub returns-in_err-commit_puts-clause-running : goal.returns-in_err-commit_puts-clause-running
returns-in_err-commit_puts-clause-running g c = on_ok_none c.from_residual.result _ c.from_residual.ensures.0

pub returns-clause-none_pending : goal.returns-clause-none_pending
returns-clause-none_pending g c = on_ok_holds c.change_group.result _ (ap (λ (v : StoreValue g.row.F.Denot). v.pending) c.self.view_is ∙ c.in_ok-commit_puts.ensures.none_pending)

pub returns-clause-trees : goal.returns-clause-trees
returns-clause-trees g c = ap (λ (v : StoreValue g.row.F.Denot). v.trees) c.self.view_is ∙ c.commit_puts.ensures.trees

pub returns-clause-calls : goal.returns-clause-calls
returns-clause-calls g c =
    (subst (λ (mid : StoreValue g.row.F.Denot). Runs g.F.FilePair.model c.args.self.now.file mid.file → mid.file.has_stopped ≡ c.args.self.now.file.has_stopped
    → Calls g.F.FilePair.model c.change_group.result c.args.self.now.file c.change_group.new.file) c.self.view_is
    (λ first same. calls_then g.F.FilePair.model c.change_group.result c.args.self.now.file c.self.inside.file c.change_group.new.file first same c.change_group.ensures.calls))
    c.commit_puts.ensures.calls.runs c.in_ok-commit_puts.ensures.calls.goes_on

pub returns-clause-running : goal.returns-clause-running
returns-clause-running g c = c.change_group.ensures.running

pub invariant_of-self : goal.invariant_of-self
invariant_of-self g c = c.self.invariant
