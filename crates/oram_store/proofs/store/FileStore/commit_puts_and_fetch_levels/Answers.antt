use Rattle.std.proofs.Common.{◌≡◌, [], refl, subst, sym, ap, ◌∙◌}
use Rattle.oram_layout.specs.Trees.{sizes_of}
use Rattle.oram_redo.specs.declared.file_pair.FileKind.TheVariants.{Records}
use Rattle.oram_store.specs.Batches.{records_of_tree}
use Rattle.oram_store.specs.Crashes.{CommitsPuts}
use Rattle.oram_store.specs.KeptRecords.{StoreValue, records_of}
use Rattle.oram_store.specs.RecordFile.{Calls, Runs}
use Rattle.oram_store.proofs.Crashes.{calls_then}
use Rattle.oram_redo.proofs.Outcomes.{if_ok_none, on_ok_holds, on_ok_none}
use Rattle.oram_store.proofs.Outcomes.{calls_passed}
use Rattle.oram_store.proofs.MessagesServed.{gives_same}
use Rattle.oram_store.proofs.RowsServed.{commits_read, if_ok_both, records_read}
use Rattle.oram_store.proofs.store.FileStore.commit_puts_and_fetch_levels.Goals as goal

pub returns-in_err-commit_puts-clause-fits : goal.returns-in_err-commit_puts-clause-fits
returns-in_err-commit_puts-clause-fits g c = if_ok_none c.from_residual.result _ c.from_residual.ensures.0

pub returns-in_err-commit_puts-clause-commits : goal.returns-in_err-commit_puts-clause-commits
returns-in_err-commit_puts-clause-commits g c s = c.commit_puts.ensures.commits_puts s

pub returns-in_err-commit_puts-clause-levels : goal.returns-in_err-commit_puts-clause-levels
returns-in_err-commit_puts-clause-levels g c = if_ok_none c.from_residual.result _ c.from_residual.ensures.0

pub returns-in_err-commit_puts-clause-none_pending : goal.returns-in_err-commit_puts-clause-none_pending
returns-in_err-commit_puts-clause-none_pending g c = on_ok_none c.from_residual.result _ c.from_residual.ensures.0

pub returns-in_err-commit_puts-clause-trees : goal.returns-in_err-commit_puts-clause-trees
returns-in_err-commit_puts-clause-trees g c = c.commit_puts.ensures.trees

pub returns-in_err-commit_puts-clause-calls : goal.returns-in_err-commit_puts-clause-calls
returns-in_err-commit_puts-clause-calls g c =
    calls_passed g.F.FilePair.model c.from_residual.result c.in_err-commit_puts.field-0.0 c.args.self.now.file c.commit_puts.new.self.file c.from_residual.ensures.1 c.in_err-commit_puts.ensures.calls

pub returns-in_err-commit_puts-clause-running : goal.returns-in_err-commit_puts-clause-running
returns-in_err-commit_puts-clause-running g c = on_ok_none c.from_residual.result _ c.from_residual.ensures.0

pub returns-clause-fits : goal.returns-clause-fits
returns-clause-fits g c = c.read_levels_answer.ensures.fits

pub returns-clause-commits : goal.returns-clause-commits
returns-clause-commits g c s =
    let model = g.F.FilePair.model in
    let old = c.args.self.now in
    let new : StoreValue g.row.F.Denot = record { file = c.read_levels_answer.new.file; trees = c.self.inside.trees.items; pending = c.self.inside.pending.items; failure = c.self.inside.failure } in
    (subst (λ (mid : StoreValue g.row.F.Denot). CommitsPuts model old mid → mid.pending ≡ [] → mid.trees ≡ old.trees → CommitsPuts model old new) c.self.view_is
    (λ commits none same. commits_read model old _ new commits none same refl refl c.read_levels_answer.ensures.reads
    c.read_levels_answer.ensures.calls.runs.stays (g.met.F.FilePair.counts_now c.self.inside.file.files) (g.met.F.FilePair.whole c.self.inside.file.files)))
    (c.commit_puts.ensures.commits_puts s) c.in_ok-commit_puts.ensures.none_pending c.commit_puts.ensures.trees

pub returns-clause-levels : goal.returns-clause-levels
returns-clause-levels g c =
    let model = g.F.FilePair.model in
    let old = c.args.self.now in
    if_ok_both c.read_levels_answer.result _ _ _ _ c.read_levels_answer.ensures.running c.read_levels_answer.ensures.calls.goes_on c.read_levels_answer.ensures.levels
    (λ running same v gives number there honest s.
    let given = gives honest in (
      given.0,
      given.1,
      gives_same (records_of_tree c.args.tree.now (model.seen c.self.inside.file.files Records)) (records_of model old) 0 number (sizes_of c.args.tree.now.shape) c.args.leaf c.args.first c.args.last given.0
          (λ node.
          (subst (λ (mid : StoreValue g.row.F.Denot). CommitsPuts model old mid → mid.pending ≡ [] → mid.trees ≡ old.trees
          → records_of_tree c.args.tree.now (model.seen c.self.inside.file.files Records) 0 node ≡ records_of model old number node) c.self.view_is
          (λ commits none trees. records_read model old _ number c.args.tree.now commits none trees (sym same ∙ running) there node))
          (c.commit_puts.ensures.commits_puts s) c.in_ok-commit_puts.ensures.none_pending c.commit_puts.ensures.trees) given.2,
    ))

pub returns-clause-none_pending : goal.returns-clause-none_pending
returns-clause-none_pending g c = on_ok_holds c.read_levels_answer.result _ (ap (λ (v : StoreValue g.row.F.Denot). v.pending) c.self.view_is ∙ c.in_ok-commit_puts.ensures.none_pending)

pub returns-clause-trees : goal.returns-clause-trees
returns-clause-trees g c = ap (λ (v : StoreValue g.row.F.Denot). v.trees) c.self.view_is ∙ c.commit_puts.ensures.trees

pub returns-clause-calls : goal.returns-clause-calls
returns-clause-calls g c =
    (subst (λ (mid : StoreValue g.row.F.Denot). Runs g.F.FilePair.model c.args.self.now.file mid.file → mid.file.has_stopped ≡ c.args.self.now.file.has_stopped
    → Calls g.F.FilePair.model c.read_levels_answer.result c.args.self.now.file c.read_levels_answer.new.file) c.self.view_is
    (λ first same. calls_then g.F.FilePair.model c.read_levels_answer.result c.args.self.now.file c.self.inside.file c.read_levels_answer.new.file first same c.read_levels_answer.ensures.calls))
    c.commit_puts.ensures.calls.runs c.in_ok-commit_puts.ensures.calls.goes_on

pub returns-clause-running : goal.returns-clause-running
returns-clause-running g c = c.read_levels_answer.ensures.running

pub invariant_of-self : goal.invariant_of-self
invariant_of-self g c = c.self.invariant
