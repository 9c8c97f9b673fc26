use Rattle.std.proofs.Common.{◌≡◌, ◌≢◌, ℕ, suc, ◌+◌, [], ◌∷◌, ◌++◌, ◌∙◌, ap, List, Ok, Some, refl, subst, arith}
use Rattle.std.specs.Prelude.{Contains}
use Rattle.oram_layout.specs.Trees.{cell_at, tree_at}
use Rattle.oram_layout.specs.declared.trees.Tree.{Tree}
use Rattle.oram_redo.specs.Content.{Agrees, put}
use Rattle.oram_redo.specs.Log.{AgreesBut, Patch}
use Rattle.oram_redo.specs.declared.file_pair.FileKind.TheVariants.{Records}
use Rattle.oram_store.specs.Crashes.{Serves}
use Rattle.oram_store.specs.KeptRecords.{IsSound, StoreValue}
use Rattle.oram_store.specs.RecordFile.{Calls, IsSteady, Passes}
use Rattle.oram_wire.specs.declared.host_messages.HostAnswer.{HostAnswer}
use Rattle.oram_wire.specs.declared.host_messages.HostAnswer.TheVariants as answer
use Rattle.oram_wire.specs.declared.host_messages.HostRequest.TheVariants as request
use Rattle.oram_store.proofs.AddedRecords.{serves_added, serves_not_added}
use Rattle.oram_store.proofs.Crashes.{calls_ok}
use Rattle.oram_redo.proofs.Outcomes.{on_ok_none}
use Rattle.oram_store.proofs.Outcomes.{calls_memory, calls_passed}
use Rattle.oram_store.proofs.Served.{answer_of_err}
use Rattle.oram_store.proofs.store.FileStore.add_record.Goals as goal

pub returns-in_err-write_loose-clause-serves : goal.returns-in_err-write_loose-clause-serves
returns-in_err-write_loose-clause-serves g c number there s fresh unset =
    let model = g.F.FilePair.model in
    let tree : Tree = c.args.tree.now in
    let node : ℕ = c.args.node in
    let bytes : List ℕ = c.args.bytes.now in
    let place : c.cell_at-cell.result + 1 ≡ suc (cell_at tree node) = omega (arith, c.cell_at-cell.ensures.place) in
    let new : StoreValue g.row.F.Denot = record { file = c.write_loose.new.self; trees = c.self.inside.trees.items; pending = c.self.inside.pending.items; failure = c.self.inside.failure } in
    let passes = subst (λ (at : ℕ). (loose : List Patch) → IsSteady model c.self.inside.file loose
    → Passes model ((at, bytes) ∷ loose) (λ r. AgreesBut ((at, bytes) ∷ loose) r (model.seen c.self.inside.file.files Records)) c.self.inside.file c.write_loose.new.self) place c.write_loose.ensures.passes in
    let elsewhere = subst (λ (at : ℕ). AgreesBut ((at, bytes) ∷ []) (model.seen c.write_loose.new.self.files Records) (model.seen c.self.inside.file.files Records)) place c.write_loose.ensures.elsewhere in
    let served = (subst (λ (old : StoreValue g.row.F.Denot). IsSound model old → tree_at old.trees number ≡ Some tree → (Contains old.pending (cell_at tree node) → ⊥)
    → model.seen old.file.files Records (cell_at tree node) ≢ 1 → Serves model (request.Put number node bytes) (answer.Refused 8) old new) c.self.view_is
    (λ was here none free. serves_not_added model number node bytes tree _ new was (record { is_there = here; within = c.requires.node }) c.requires.whole none free passes elsewhere refl refl))
    s there fresh unset in
    subst (λ (a : HostAnswer). Serves model (request.Put number node bytes) a c.args.self.now new) (answer_of_err c.from_residual.result c.from_residual.ensures.0) served

pub returns-in_err-push-clause-serves : goal.returns-in_err-push-clause-serves
returns-in_err-push-clause-serves g c number there s fresh unset =
    let model = g.F.FilePair.model in
    let tree : Tree = c.args.tree.now in
    let node : ℕ = c.args.node in
    let bytes : List ℕ = c.args.bytes.now in
    let place : c.cell_at-cell.result + 1 ≡ suc (cell_at tree node) = omega (arith, c.cell_at-cell.ensures.place) in
    let new : StoreValue g.row.F.Denot = record { file = c.write_loose.new.self; trees = c.self.inside.trees.items; pending = c.push.new.self.items; failure = c.self.inside.failure } in
    let passes = subst (λ (at : ℕ). (loose : List Patch) → IsSteady model c.self.inside.file loose
    → Passes model ((at, bytes) ∷ loose) (λ r. AgreesBut ((at, bytes) ∷ loose) r (model.seen c.self.inside.file.files Records)) c.self.inside.file c.write_loose.new.self) place c.write_loose.ensures.passes in
    let elsewhere = subst (λ (at : ℕ). AgreesBut ((at, bytes) ∷ []) (model.seen c.write_loose.new.self.files Records) (model.seen c.self.inside.file.files Records)) place c.write_loose.ensures.elsewhere in
    let served = (subst (λ (old : StoreValue g.row.F.Denot). IsSound model old → tree_at old.trees number ≡ Some tree → (Contains old.pending (cell_at tree node) → ⊥)
    → model.seen old.file.files Records (cell_at tree node) ≢ 1 → Serves model (request.Put number node bytes) (answer.Refused 8) old new) c.self.view_is
    (λ was here none free. serves_not_added model number node bytes tree _ new was (record { is_there = here; within = c.requires.node }) c.requires.whole none free passes elsewhere refl c.in_err-push.ensures.items))
    s there fresh unset in
    subst (λ (a : HostAnswer). Serves model (request.Put number node bytes) a c.args.self.now new) (answer_of_err c.from_residual-in_err-push.result c.from_residual-in_err-push.ensures.0) served

pub returns-clause-serves : goal.returns-clause-serves
returns-clause-serves g c number there s fresh unset =
    let model = g.F.FilePair.model in
    let tree : Tree = c.args.tree.now in
    let node : ℕ = c.args.node in
    let bytes : List ℕ = c.args.bytes.now in
    let place : c.cell_at-cell.result + 1 ≡ suc (cell_at tree node) = omega (arith, c.cell_at-cell.ensures.place) in
    let new : StoreValue g.row.F.Denot = record { file = c.write_loose.new.self; trees = c.self.inside.trees.items; pending = c.push.new.self.items; failure = c.self.inside.failure } in
    let passes = subst (λ (at : ℕ). (loose : List Patch) → IsSteady model c.self.inside.file loose
    → Passes model ((at, bytes) ∷ loose) (λ r. AgreesBut ((at, bytes) ∷ loose) r (model.seen c.self.inside.file.files Records)) c.self.inside.file c.write_loose.new.self) place c.write_loose.ensures.passes in
    let elsewhere = subst (λ (at : ℕ). AgreesBut ((at, bytes) ∷ []) (model.seen c.write_loose.new.self.files Records) (model.seen c.self.inside.file.files Records)) place c.write_loose.ensures.elsewhere in
    let written = subst (λ (at : ℕ). Agrees (model.seen c.write_loose.new.self.files Records) (put bytes at (model.seen c.self.inside.file.files Records))) place c.in_ok-write_loose.ensures.written in
    let pushed : c.push.new.self.items ≡ c.self.inside.pending.items ++ cell_at tree node ∷ [] = c.in_ok-push.ensures.items ∙ ap (λ (cell : ℕ). c.self.inside.pending.items ++ cell ∷ []) c.cell_at-cell.ensures.place in
    let served = (subst (λ (old : StoreValue g.row.F.Denot). IsSound model old → tree_at old.trees number ≡ Some tree → (Contains old.pending (cell_at tree node) → ⊥)
    → model.seen old.file.files Records (cell_at tree node) ≢ 1 → Serves model (request.Put number node bytes) answer.Done old new) c.self.view_is
    (λ was here none free. serves_added model number node bytes tree _ new was (record { is_there = here; within = c.requires.node }) c.requires.whole none free passes elsewhere refl written pushed))
    s there fresh unset in
    served

pub returns-in_err-write_loose-clause-trees : goal.returns-in_err-write_loose-clause-trees
returns-in_err-write_loose-clause-trees g c = ap (λ (v : StoreValue g.row.F.Denot). v.trees) c.self.view_is

pub returns-in_err-write_loose-clause-calls : goal.returns-in_err-write_loose-clause-calls
returns-in_err-write_loose-clause-calls g c =
    subst (λ (old : StoreValue g.row.F.Denot). Calls g.F.FilePair.model c.from_residual.result old.file c.write_loose.new.self) c.self.view_is
    (calls_passed g.F.FilePair.model c.from_residual.result c.in_err-write_loose.field-0.0 c.self.inside.file c.write_loose.new.self c.from_residual.ensures.1 c.in_err-write_loose.ensures.calls)

pub returns-in_err-write_loose-clause-running : goal.returns-in_err-write_loose-clause-running
returns-in_err-write_loose-clause-running g c = on_ok_none c.from_residual.result _ c.from_residual.ensures.0

pub returns-in_err-push-clause-trees : goal.returns-in_err-push-clause-trees
returns-in_err-push-clause-trees g c = ap (λ (v : StoreValue g.row.F.Denot). v.trees) c.self.view_is

pub returns-in_err-push-clause-calls : goal.returns-in_err-push-clause-calls
returns-in_err-push-clause-calls g c =
    subst (λ (old : StoreValue g.row.F.Denot). Calls g.F.FilePair.model c.from_residual-in_err-push.result old.file c.write_loose.new.self) c.self.view_is
    (calls_memory g.F.FilePair.model c.from_residual-in_err-push.result c.self.inside.file c.write_loose.new.self c.from_residual-in_err-push.ensures.1 c.write_loose.ensures.calls.runs)

pub returns-in_err-push-clause-running : goal.returns-in_err-push-clause-running
returns-in_err-push-clause-running g c = on_ok_none c.from_residual-in_err-push.result _ c.from_residual-in_err-push.ensures.0

pub returns-clause-trees : goal.returns-clause-trees
returns-clause-trees g c = ap (λ (v : StoreValue g.row.F.Denot). v.trees) c.self.view_is

pub returns-clause-calls : goal.returns-clause-calls
returns-clause-calls g c =
    subst (λ (old : StoreValue g.row.F.Denot). Calls g.F.FilePair.model (Ok tt) old.file c.write_loose.new.self) c.self.view_is
    (calls_ok g.F.FilePair.model c.in_ok-write_loose.field-0 tt c.self.inside.file c.write_loose.new.self c.in_ok-write_loose.ensures.calls)

pub returns-clause-running : goal.returns-clause-running
returns-clause-running g c = c.in_ok-write_loose.ensures.running

pub invariant_of-self : goal.invariant_of-self
invariant_of-self g c = c.self.invariant
