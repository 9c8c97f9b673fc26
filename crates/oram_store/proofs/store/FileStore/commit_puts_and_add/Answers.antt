use Rattle.std.proofs.Common.{◌≡◌, inl, ℕ, [], Some, refl, subst, ap, ◌∙◌, arith}
use Rattle.std.specs.Prelude.{slice_set}
use Rattle.oram_layout.specs.Trees.{Trees, next_of, sizes_of, tree_at}
use Rattle.oram_store.specs.Crashes.{Serves, CommitsPuts}
use Rattle.oram_store.specs.KeptRecords.{StoreValue}
use Rattle.oram_store.specs.RecordFile.{IsReason, Runs}
use Rattle.oram_wire.specs.declared.host_messages.HostRequest.{HostRequest}
use Rattle.oram_wire.specs.declared.host_messages.HostAnswer.{HostAnswer}
use Rattle.oram_wire.specs.declared.host_messages.HostAnswer.TheVariants as answer
use Rattle.oram_wire.specs.declared.host_messages.HostRequest.TheVariants as request
use Rattle.oram_store.proofs.Crashes.{error_is, reason_then, runs_then}
use Rattle.oram_redo.proofs.Outcomes.{on_ok_none}
use Rattle.oram_store.proofs.Outcomes.{on_err_holds}
use Rattle.oram_store.proofs.Served.{answer_of_err, serves_after, serves_err}
use Rattle.oram_store.proofs.AddedTrees.{adds_there, leads_there, serves_no_shape, serves_shape}
use Rattle.oram_store.proofs.store.FileStore.commit_puts_and_add.Goals as goal

pub returns-in_err-commit_entry-clause-runs : goal.returns-in_err-commit_entry-clause-runs
returns-in_err-commit_entry-clause-runs g c =
    (subst (λ (mid : StoreValue g.row.F.Denot). Runs g.F.FilePair.model c.args.self.now.file mid.file
    → Runs g.F.FilePair.model c.args.self.now.file c.commit_entry.new.file) c.self.view_is
    (λ first. runs_then g.F.FilePair.model c.args.self.now.file c.self.inside.file c.commit_entry.new.file first c.commit_entry.ensures.calls.runs))
    c.commit_puts.ensures.calls.runs

pub returns-in_err-commit_entry-clause-serves : goal.returns-in_err-commit_entry-clause-serves
returns-in_err-commit_entry-clause-serves g c s =
    let model = g.F.FilePair.model in
    let message : HostRequest = request.Shape c.args.number c.args.shape.depth c.args.shape.record_len in
    let old = c.args.self.now in
    let more : Trees = slice_set c.self.inside.trees.items c.args.number (Some c.in-Some.tree) in
    let new : StoreValue g.row.F.Denot = record { file = c.commit_entry.new.file; trees = c.self.inside.trees.items; pending = c.self.inside.pending.items; failure = c.self.inside.failure } in
    let base : c.in-Some.tree.base ≡ next_of c.self.inside.trees.items = c.in-Some.ensures.1 ∙ c.next_base.ensures.place ∙ ap next_of c.deref.ensures.value in
    let served = (subst (λ (mid : StoreValue g.row.F.Denot). CommitsPuts model old mid → mid.pending ≡ [] → mid.trees ≡ old.trees → Serves model message (answer.Refused 8) old new) c.self.view_is
    (λ commits_puts none same.
    let adds = adds_there c.self.inside.trees.items c.args.number c.in-Some.tree (omega arith) c.self.invariant.0 (ap (λ (t : Trees). tree_at t c.args.number) same ∙ c.requires) in
    let leads = leads_there c.self.inside.trees.items more c.args.number c.args.shape.depth c.args.shape.record_len c.in-Some.tree adds (ap sizes_of c.in-Some.ensures.0) in
    serves_after model message (answer.Refused 8) old _ new commits_puts none same
    (λ sound. serves_no_shape model c.args.number c.args.shape.depth c.args.shape.record_len c.in-Some.tree more _ new sound none none adds leads base c.in_err-commit_entry.field-0.0 c.in_err-commit_entry.ensures.commits refl)
    c.commit_entry.ensures.calls.runs.stays (g.met.F.FilePair.counts_now c.self.inside.file.files) (g.met.F.FilePair.whole c.self.inside.file.files)))
    (c.commit_puts.ensures.commits_puts s) c.in_ok-commit_puts.ensures.none_pending c.commit_puts.ensures.trees in
    subst (λ (a : HostAnswer). Serves model message a old new) (answer_of_err c.from_residual-in_err-commit_entry.result c.from_residual-in_err-commit_entry.ensures.0) served

pub returns-in_err-commit_entry-clause-reason : goal.returns-in_err-commit_entry-clause-reason
returns-in_err-commit_entry-clause-reason g c =
    let fault = c.in_err-commit_entry.field-0.0 in
    let old = c.args.self.now in
    let reason = (subst (λ (mid : StoreValue g.row.F.Denot). Runs g.F.FilePair.model old.file mid.file → mid.file.has_stopped ≡ old.file.has_stopped
    → IsReason g.F.FilePair.model old.file c.commit_entry.new.file fault) c.self.view_is
    (λ first same. reason_then g.F.FilePair.model old.file c.self.inside.file c.commit_entry.new.file fault first same
    c.in_err-commit_entry.ensures.calls.reason)) c.commit_puts.ensures.calls.runs c.in_ok-commit_puts.ensures.calls.goes_on in
    error_is c.from_residual-in_err-commit_entry.result fault _ c.from_residual-in_err-commit_entry.ensures.1 (inl reason)

pub returns-clause-serves : goal.returns-clause-serves
returns-clause-serves g c s =
    let model = g.F.FilePair.model in
    let message : HostRequest = request.Shape c.args.number c.args.shape.depth c.args.shape.record_len in
    let old = c.args.self.now in
    let more : Trees = slice_set c.self.inside.trees.items c.args.number (Some c.in-Some.tree) in
    let new : StoreValue g.row.F.Denot = record { file = c.commit_entry.new.file; trees = slice_set c.self.inside.trees.items c.from.result (Some c.in-Some.tree); pending = c.self.inside.pending.items; failure = c.self.inside.failure } in
    let base : c.in-Some.tree.base ≡ next_of c.self.inside.trees.items = c.in-Some.ensures.1 ∙ c.next_base.ensures.place ∙ ap next_of c.deref.ensures.value in
    let served = (subst (λ (mid : StoreValue g.row.F.Denot). CommitsPuts model old mid → mid.pending ≡ [] → mid.trees ≡ old.trees → Serves model message answer.Done old new) c.self.view_is
    (λ commits_puts none same.
    let adds = adds_there c.self.inside.trees.items c.args.number c.in-Some.tree (omega arith) c.self.invariant.0 (ap (λ (t : Trees). tree_at t c.args.number) same ∙ c.requires) in
    let leads = leads_there c.self.inside.trees.items more c.args.number c.args.shape.depth c.args.shape.record_len c.in-Some.tree adds (ap sizes_of c.in-Some.ensures.0) in
    serves_after model message answer.Done old _ new commits_puts none same
    (λ sound. serves_shape model c.args.number c.args.shape.depth c.args.shape.record_len c.in-Some.tree more _ new sound none none adds leads base c.in_ok-commit_entry.field-0 c.in_ok-commit_entry.ensures.commits (ap (λ (i : ℕ). slice_set c.self.inside.trees.items i (Some c.in-Some.tree)) c.from.ensures))
    c.commit_entry.ensures.calls.runs.stays (g.met.F.FilePair.counts_now c.self.inside.file.files) (g.met.F.FilePair.whole c.self.inside.file.files)))
    (c.commit_puts.ensures.commits_puts s) c.in_ok-commit_puts.ensures.none_pending c.commit_puts.ensures.trees in
    served

pub returns-in_err-commit_puts-clause-serves : goal.returns-in_err-commit_puts-clause-serves
returns-in_err-commit_puts-clause-serves g c s =
    serves_err g.F.FilePair.model (request.Shape c.args.number c.args.shape.depth c.args.shape.record_len) c.from_residual.result c.args.self.now c.commit_puts.new.self c.from_residual.ensures.0 (c.commit_puts.ensures.commits_puts s)

pub returns-in_err-commit_puts-clause-after : goal.returns-in_err-commit_puts-clause-after
returns-in_err-commit_puts-clause-after g c = on_ok_none c.from_residual.result _ c.from_residual.ensures.0

pub returns-in_err-commit_puts-clause-same : goal.returns-in_err-commit_puts-clause-same
returns-in_err-commit_puts-clause-same g c = on_err_holds c.from_residual.result _ c.commit_puts.ensures.trees

pub returns-in_err-commit_puts-clause-none_pending : goal.returns-in_err-commit_puts-clause-none_pending
returns-in_err-commit_puts-clause-none_pending g c = on_ok_none c.from_residual.result _ c.from_residual.ensures.0

pub returns-in_err-commit_puts-clause-runs : goal.returns-in_err-commit_puts-clause-runs
returns-in_err-commit_puts-clause-runs g c = c.commit_puts.ensures.calls.runs

pub returns-in_err-commit_puts-clause-running : goal.returns-in_err-commit_puts-clause-running
returns-in_err-commit_puts-clause-running g c = on_ok_none c.from_residual.result _ c.from_residual.ensures.0

pub returns-in_err-commit_puts-clause-reason : goal.returns-in_err-commit_puts-clause-reason
returns-in_err-commit_puts-clause-reason g c =
    error_is c.from_residual.result c.in_err-commit_puts.field-0.0 _ c.from_residual.ensures.1 (inl c.in_err-commit_puts.ensures.calls.reason)

pub returns-in_err-commit_entry-clause-after : goal.returns-in_err-commit_entry-clause-after
returns-in_err-commit_entry-clause-after g c = on_ok_none c.from_residual-in_err-commit_entry.result _ c.from_residual-in_err-commit_entry.ensures.0

pub returns-in_err-commit_entry-clause-same : goal.returns-in_err-commit_entry-clause-same
returns-in_err-commit_entry-clause-same g c =
    on_err_holds c.from_residual-in_err-commit_entry.result _ (ap (λ (v : StoreValue g.row.F.Denot). v.trees) c.self.view_is ∙ c.commit_puts.ensures.trees)

pub returns-in_err-commit_entry-clause-none_pending : goal.returns-in_err-commit_entry-clause-none_pending
returns-in_err-commit_entry-clause-none_pending g c = on_ok_none c.from_residual-in_err-commit_entry.result _ c.from_residual-in_err-commit_entry.ensures.0

pub returns-in_err-commit_entry-clause-running : goal.returns-in_err-commit_entry-clause-running
returns-in_err-commit_entry-clause-running g c = on_ok_none c.from_residual-in_err-commit_entry.result _ c.from_residual-in_err-commit_entry.ensures.0

pub returns-clause-none_pending : goal.returns-clause-none_pending
returns-clause-none_pending g c = ap (λ (v : StoreValue g.row.F.Denot). v.pending) c.self.view_is ∙ c.in_ok-commit_puts.ensures.none_pending

pub returns-clause-runs : goal.returns-clause-runs
returns-clause-runs g c =
    (subst (λ (mid : StoreValue g.row.F.Denot). Runs g.F.FilePair.model c.args.self.now.file mid.file → Runs g.F.FilePair.model c.args.self.now.file c.commit_entry.new.file) c.self.view_is
    (λ first. runs_then g.F.FilePair.model c.args.self.now.file c.self.inside.file c.commit_entry.new.file first c.commit_entry.ensures.calls.runs))
    c.commit_puts.ensures.calls.runs

pub returns-clause-running : goal.returns-clause-running
returns-clause-running g c = c.in_ok-commit_entry.ensures.running

pub invariant_of-self : goal.invariant_of-self
invariant_of-self g c = c.self.invariant
