use Rattle.std.proofs.Common.{◌≡◌, ℕ, [], List, Some, refl, subst, ap, ◌∙◌, arith}
use Rattle.oram_layout.specs.Trees.{Trees, shape_of, sizes_of, tree_at}
use Rattle.oram_layout.specs.Changes.{marks}
use Rattle.oram_layout.specs.Limits.{TreeShape}
use Rattle.oram_layout.specs.Records.{AreKept, Records as RecordsOf, records_in}
use Rattle.oram_redo.specs.Log.{put_all}
use Rattle.oram_redo.specs.declared.file_pair.FileKind.TheVariants.{Records}
use Rattle.oram_store.specs.Answers.{Answers}
use Rattle.oram_store.specs.Crashes.{Serves, CommitsPuts}
use Rattle.oram_store.specs.KeptRecords.{StoreValue}
use Rattle.oram_wire.specs.declared.host_messages.HostAnswer.{HostAnswer}
use Rattle.oram_wire.specs.declared.host_messages.HostAnswer.TheVariants as answer
use Rattle.oram_wire.specs.declared.host_messages.HostRequest.TheVariants as request
use Rattle.oram_store.specs.RecordFile.{Calls, Runs}
use Rattle.oram_store.proofs.Crashes.{calls_then}
use Rattle.oram_redo.proofs.Outcomes.{if_ok_none, on_ok_holds, on_ok_none}
use Rattle.oram_store.proofs.Outcomes.{calls_passed}
use Rattle.oram_store.proofs.Served.{lacks_of_tree, match_err, match_found, path_of_tree, serves_fetched, serves_committed}
use Rattle.oram_store.proofs.store.FileStore.commit_puts_and_fetch.Goals as goal

pub returns-in_err-commit_puts-clause-serves : goal.returns-in_err-commit_puts-clause-serves
returns-in_err-commit_puts-clause-serves g c number there honest s =
    match_err c.from_residual.result _ _ c.from_residual.ensures.0
    (serves_committed g.F.FilePair.model (request.Fetch number c.args.leaf) 8 c.args.self.now c.commit_puts.new.self (λ six. absurd (omega arith)) (c.commit_puts.ensures.commits_puts s))

pub returns-clause-serves : goal.returns-clause-serves
returns-clause-serves g c number there honest s =
    let model = g.F.FilePair.model in
    let new : StoreValue g.row.F.Denot = record { file = c.read_path.new.file; trees = c.self.inside.trees.items; pending = c.self.inside.pending.items; failure = c.self.inside.failure } in
    let old = c.args.self.now in
    let sizes : TreeShape = sizes_of c.args.tree.now.shape in
    let served : (given : HostAnswer) → ((trees : Trees) (cells : List ℕ) (two : RecordsOf) → tree_at trees number ≡ Some c.args.tree.now → cells ≡ []
    → AreKept (records_in trees (put_all (marks cells) (model.seen c.self.inside.file.files Records))) two
    → Answers trees (records_in trees (put_all (marks cells) (model.seen c.self.inside.file.files Records))) (request.Fetch number c.args.leaf) given two)
    → Serves model (request.Fetch number c.args.leaf) given old new =
    λ given answers. (subst (λ (mid : StoreValue g.row.F.Denot). CommitsPuts model old mid → mid.pending ≡ [] → mid.trees ≡ old.trees
    → Serves model (request.Fetch number c.args.leaf) given old new) c.self.view_is
    (λ commits_puts none same.
    let here : tree_at c.self.inside.trees.items number ≡ Some c.args.tree.now = ap (λ (t : Trees). tree_at t number) same ∙ there in
    serves_fetched model (request.Fetch number c.args.leaf) given old _ new commits_puts none same refl refl c.read_path.ensures.reads
    (λ two kept. answers c.self.inside.trees.items c.self.inside.pending.items two here none kept)
    c.read_path.ensures.calls.runs.stays (g.met.F.FilePair.counts_now c.self.inside.file.files) (g.met.F.FilePair.whole c.self.inside.file.files)))
    (c.commit_puts.ensures.commits_puts s) c.in_ok-commit_puts.ensures.none_pending c.commit_puts.ensures.trees in
    match_found c.read_path.result _ _ _ _ _ _ c.read_path.ensures.path honest
    (λ lacks. served (answer.Refused 6) (λ trees cells two here none kept. (λ six. (sizes, ap shape_of here, lacks_of_tree trees cells (model.seen c.self.inside.file.files Records) number c.args.tree.now c.args.leaf here none lacks), kept)))
    (λ v behind. (
      behind.0,
      behind.1,
      served (answer.Payload behind.0) (λ trees cells two here none kept.
          (sizes, ap shape_of here, path_of_tree trees cells (model.seen c.self.inside.file.files Records) number c.args.tree.now c.args.leaf behind.0 here none behind.2, kept)),
    ))
    (served (answer.Refused 8) (λ trees cells two here none kept. (λ six. absurd (omega arith), kept)))

pub returns-in_err-commit_puts-clause-fits : goal.returns-in_err-commit_puts-clause-fits
returns-in_err-commit_puts-clause-fits g c = if_ok_none c.from_residual.result _ c.from_residual.ensures.0

pub returns-in_err-commit_puts-clause-none_pending : goal.returns-in_err-commit_puts-clause-none_pending
returns-in_err-commit_puts-clause-none_pending g c = on_ok_none c.from_residual.result _ c.from_residual.ensures.0

pub returns-in_err-commit_puts-clause-trees : goal.returns-in_err-commit_puts-clause-trees
returns-in_err-commit_puts-clause-trees g c = c.commit_puts.ensures.trees

pub returns-in_err-commit_puts-clause-calls : goal.returns-in_err-commit_puts-clause-calls
returns-in_err-commit_puts-clause-calls g c =
    calls_passed g.F.FilePair.model c.from_residual.result c.in_err-commit_puts.field-0.0 c.args.self.now.file c.commit_puts.new.self.file c.from_residual.ensures.1 c.in_err-commit_puts.ensures.calls

pub returns-in_err-commit_puts-clause-running : goal.returns-in_err-commit_puts-clause-running
returns-in_err-commit_puts-clause-running g c = on_ok_none c.from_residual.result _ c.from_residual.ensures.0

pub returns-clause-fits : goal.returns-clause-fits
returns-clause-fits g c = c.read_path.ensures.fits

pub returns-clause-none_pending : goal.returns-clause-none_pending
returns-clause-none_pending g c = on_ok_holds c.read_path.result _ (ap (λ (v : StoreValue g.row.F.Denot). v.pending) c.self.view_is ∙ c.in_ok-commit_puts.ensures.none_pending)

pub returns-clause-trees : goal.returns-clause-trees
returns-clause-trees g c = ap (λ (v : StoreValue g.row.F.Denot). v.trees) c.self.view_is ∙ c.commit_puts.ensures.trees

pub returns-clause-calls : goal.returns-clause-calls
returns-clause-calls g c =
    (subst (λ (mid : StoreValue g.row.F.Denot). Runs g.F.FilePair.model c.args.self.now.file mid.file → mid.file.has_stopped ≡ c.args.self.now.file.has_stopped
    → Calls g.F.FilePair.model c.read_path.result c.args.self.now.file c.read_path.new.file) c.self.view_is
    (λ first same. calls_then g.F.FilePair.model c.read_path.result c.args.self.now.file c.self.inside.file c.read_path.new.file first same c.read_path.ensures.calls))
    c.commit_puts.ensures.calls.runs c.in_ok-commit_puts.ensures.calls.goes_on

pub returns-clause-running : goal.returns-clause-running
returns-clause-running g c = c.read_path.ensures.running

pub invariant_of-self : goal.invariant_of-self
invariant_of-self g c = c.self.invariant
