use Rattle.std.proofs.Common.{◌≡◌, ◌≢◌, ◌<◌, Some, length, true≢false, refl, sym, ap, subst, ◌∙◌}
use Rattle.std.specs.Prelude.{Contains}
use Rattle.oram_layout.specs.Trees.{cell_at, tree_at}
use Rattle.oram_redo.specs.declared.file_pair.FileKind.TheVariants.{Records}
use Rattle.oram_store.specs.Answers.{answer_by}
use Rattle.oram_store.specs.Crashes.{Serves}
use Rattle.oram_store.specs.KeptRecords.{IsSound, StoreValue}
use Rattle.oram_wire.specs.declared.host_messages.HostAnswer.{HostAnswer}
use Rattle.oram_wire.specs.declared.host_messages.HostAnswer.TheVariants as answer
use Rattle.oram_wire.specs.declared.host_messages.HostRequest.TheVariants as request
use Rattle.oram_store.specs.RecordFile.{Calls}
use Rattle.oram_store.proofs.Crashes.{calls_then}
use Rattle.oram_redo.proofs.Outcomes.{on_ok_none}
use Rattle.oram_store.proofs.Outcomes.{calls_passed}
use Rattle.oram_store.proofs.Puts.{serves_read, serves_unread}
use Rattle.oram_store.proofs.Served.{answer_of_err}
use Rattle.oram_store.proofs.store.FileStore.put_in_cell.Goals as goal

pub returns-in_err-has_record-clause-serves : goal.returns-in_err-has_record-clause-serves
returns-in_err-has_record-clause-serves g c number there honest s fresh =
    let model = g.F.FilePair.model in
    let mid : StoreValue g.row.F.Denot = record { file = c.has_record.new.file; trees = c.self.inside.trees.items; pending = c.self.inside.pending.items; failure = c.self.inside.failure } in
    let served = (subst (λ (old : StoreValue g.row.F.Denot). IsSound model old → Serves model (request.Put number c.args.node c.args.bytes.now) (answer.Refused 8) old mid) c.self.view_is
    (λ was. serves_unread model (request.Put number c.args.node c.args.bytes.now) _ mid was refl refl c.has_record.ensures.reads)) s in
    subst (λ (a : HostAnswer). Serves model (request.Put number c.args.node c.args.bytes.now) a c.args.self.now mid) (answer_of_err c.from_residual.result c.from_residual.ensures.0) served

pub returns-then-branch-clause-serves : goal.returns-then-branch-clause-serves
returns-then-branch-clause-serves g c number there honest s fresh =
    let model = g.F.FilePair.model in
    let mid : StoreValue g.row.F.Denot = record { file = c.has_record.new.file; trees = c.self.inside.trees.items; pending = c.self.inside.pending.items; failure = c.self.inside.failure } in
    (subst (λ (old : StoreValue g.row.F.Denot). IsSound model old → tree_at old.trees number ≡ Some c.args.tree.now
    → Serves model (request.Put number c.args.node c.args.bytes.now) (answer_by c.replace_record.result) old c.replace_record.new.self) c.self.view_is
    (λ was here. serves_read model (request.Put number c.args.node c.args.bytes.now) _ mid was refl refl c.has_record.ensures.reads (answer_by c.replace_record.result) c.replace_record.new.self
    (λ sound. c.replace_record.ensures.serves number here sound) c.replace_record.ensures.calls.runs.stays (g.met.F.FilePair.counts_now mid.file.files) (g.met.F.FilePair.whole mid.file.files))) s there

pub returns-else-branch-clause-serves : goal.returns-else-branch-clause-serves
returns-else-branch-clause-serves g c number there honest s fresh =
    let model = g.F.FilePair.model in
    let mid : StoreValue g.row.F.Denot = record { file = c.has_record.new.file; trees = c.self.inside.trees.items; pending = c.self.inside.pending.items; failure = c.self.inside.failure } in
    let was_honest = c.add_record.ensures.calls.runs.after.honest honest in
    let unset : model.seen mid.file.files Records (cell_at c.args.tree.now c.args.node) ≢ 1 =
    λ one. true≢false (sym ((c.in_ok-has_record.ensures.found was_honest).1 (sym (c.has_record.ensures.reads.nothing.seen_same Records _) ∙ one)) ∙ c.if-branch.false) in
    (subst (λ (old : StoreValue g.row.F.Denot). IsSound model old → tree_at old.trees number ≡ Some c.args.tree.now → (Contains old.pending (cell_at c.args.tree.now c.args.node) → ⊥)
    → Serves model (request.Put number c.args.node c.args.bytes.now) (answer_by c.add_record.result) old c.add_record.new.self) c.self.view_is
    (λ was here free. serves_read model (request.Put number c.args.node c.args.bytes.now) _ mid was refl refl c.has_record.ensures.reads (answer_by c.add_record.result) c.add_record.new.self
    (λ sound. c.add_record.ensures.serves number here sound free unset) c.add_record.ensures.calls.runs.stays (g.met.F.FilePair.counts_now mid.file.files) (g.met.F.FilePair.whole mid.file.files))) s there fresh

pub returns-in_err-has_record-clause-trees : goal.returns-in_err-has_record-clause-trees
returns-in_err-has_record-clause-trees g c = ap (λ (v : StoreValue g.row.F.Denot). v.trees) c.self.view_is

pub returns-in_err-has_record-clause-calls : goal.returns-in_err-has_record-clause-calls
returns-in_err-has_record-clause-calls g c =
    subst (λ (old : StoreValue g.row.F.Denot). Calls g.F.FilePair.model c.from_residual.result old.file c.has_record.new.file) c.self.view_is
    (calls_passed g.F.FilePair.model c.from_residual.result c.in_err-has_record.field-0.0 c.self.inside.file c.has_record.new.file c.from_residual.ensures.1 c.in_err-has_record.ensures.calls)

pub returns-in_err-has_record-clause-running : goal.returns-in_err-has_record-clause-running
returns-in_err-has_record-clause-running g c = on_ok_none c.from_residual.result _ c.from_residual.ensures.0

pub invariant_of-self : goal.invariant_of-self
invariant_of-self g c = c.self.invariant

pub invariant_of-self-then-branch : goal.invariant_of-self-then-branch
invariant_of-self-then-branch g c = c.self.invariant

pub invariant_of-self-else-branch : goal.invariant_of-self-else-branch
invariant_of-self-else-branch g c = c.self.invariant

pub add_record-requires-clause-room : goal.add_record-requires-clause-room
add_record-requires-clause-room g c = subst (λ (v : StoreValue g.row.F.Denot). length v.pending < 4096) (sym c.self.view_is) c.requires.room

pub returns-then-branch-clause-trees : goal.returns-then-branch-clause-trees
returns-then-branch-clause-trees g c = c.replace_record.ensures.trees ∙ ap (λ (v : StoreValue g.row.F.Denot). v.trees) c.self.view_is

pub returns-then-branch-clause-calls : goal.returns-then-branch-clause-calls
returns-then-branch-clause-calls g c =
    subst (λ (old : StoreValue g.row.F.Denot). Calls g.F.FilePair.model c.replace_record.result old.file c.replace_record.new.self.file) c.self.view_is
    (calls_then g.F.FilePair.model c.replace_record.result c.self.inside.file c.has_record.new.file c.replace_record.new.self.file
    c.has_record.ensures.calls.runs c.in_ok-has_record.ensures.calls.goes_on c.replace_record.ensures.calls)

pub returns-then-branch-clause-running : goal.returns-then-branch-clause-running
returns-then-branch-clause-running g c = c.replace_record.ensures.running

pub returns-else-branch-clause-trees : goal.returns-else-branch-clause-trees
returns-else-branch-clause-trees g c = c.add_record.ensures.trees ∙ ap (λ (v : StoreValue g.row.F.Denot). v.trees) c.self.view_is

pub returns-else-branch-clause-calls : goal.returns-else-branch-clause-calls
returns-else-branch-clause-calls g c =
    subst (λ (old : StoreValue g.row.F.Denot). Calls g.F.FilePair.model c.add_record.result old.file c.add_record.new.self.file) c.self.view_is
    (calls_then g.F.FilePair.model c.add_record.result c.self.inside.file c.has_record.new.file c.add_record.new.self.file
    c.has_record.ensures.calls.runs c.in_ok-has_record.ensures.calls.goes_on c.add_record.ensures.calls)

pub returns-else-branch-clause-running : goal.returns-else-branch-clause-running
returns-else-branch-clause-running g c = c.add_record.ensures.running
