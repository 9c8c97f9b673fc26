use Rattle.std.proofs.Common.{◌≡◌, Err, false, ap, refl, sym, subst, rules}
use Rattle.oram_host.specs.declared.refusals.HostRefusal.{HostRefusal}
use Rattle.oram_store.specs.Crashes.{Serves}
use Rattle.oram_store.specs.KeptRecords.{StoreValue}
use Rattle.oram_store.specs.RecordFile.{Runs}
use Rattle.oram_wire.specs.HostBodies.{request_of}
use Rattle.oram_wire.specs.declared.host_messages.HostAnswer.TheVariants.{Done, Payload}
use Rattle.oram_wire.specs.declared.host_messages.HostRequest.{HostRequest}
use Rattle.oram_store.specs.Reasons.{ReportsWhy}
use Rattle.oram_redo.proofs.Outcomes.{if_ok_none, on_ok_none}
use Rattle.oram_store.proofs.Outcomes.{on_err_holds}
use Rattle.oram_store.proofs.Responses.{error_of, reason_for}
use Rattle.oram_store.proofs.store.FileStore.serve.Goals.{in-Store+in_ok-store-in-Store, in-Put+in_ok-put-in-Put, in-Shape+in_ok-shape-in-Shape}
use Rattle.oram_store.proofs.store.FileStore.serve.Goals as goal

pub returns-in-Fetch-clause-serves : goal.returns-in-Fetch-clause-serves
returns-in-Fetch-clause-serves g c honest s =
    let is : HostRequest.Fetch c.in-Fetch.tree c.in-Fetch.leaf ≡ request_of c.args.request = search rules in
    let served = c.in_ok-records-in-Fetch.ensures.serves honest s in (
      Payload served.0,
      (served.0, served.1, refl),
      subst (λ (m : HostRequest). Serves g.F.FilePair.model m (Payload served.0) c.args.self.now c.fetch.new.self) is served.2,
    )

pub returns-clause-runs : goal.returns-clause-runs
returns-clause-runs g c = elim c.match-request.branch [
  | in-Store+in_ok-store-in-Store w ↦ subst (λ (v : StoreValue g.row.F.Denot). Runs g.F.FilePair.model c.args.self.now.file v.file) (sym w.self-is) w.store.ensures.runs
  | in-Put+in_ok-put-in-Put w ↦ subst (λ (v : StoreValue g.row.F.Denot). Runs g.F.FilePair.model c.args.self.now.file v.file) (sym w.self-is) w.put.ensures.runs
  | in-Shape+in_ok-shape-in-Shape w ↦ subst (λ (v : StoreValue g.row.F.Denot). Runs g.F.FilePair.model c.args.self.now.file v.file) (sym w.self-is) w.shape.ensures.runs
]

pub returns-clause-serves : goal.returns-clause-serves
returns-clause-serves g c honest s =
    let message = request_of c.args.request in
    let old = c.args.self.now in
    let P : StoreValue g.row.F.Denot → Type 0 = λ v. g.F.FilePair.model.is_honest v.file.files → Serves g.F.FilePair.model message Done old v in
    let serves : P c.match-request.self = elim c.match-request.branch [
      | in-Store+in_ok-store-in-Store w ↦
          let is : HostRequest.Store w.in-Store.tree w.in-Store.leaf w.in-Store.records.now ≡ message = search rules in
          subst P (sym w.self-is) (λ h. subst (λ (m : HostRequest). Serves g.F.FilePair.model m Done old w.store.new.self) is (w.in_ok-store-in-Store.ensures.serves h s))
      | in-Put+in_ok-put-in-Put w ↦
          let is : HostRequest.Put w.in-Put.tree w.in-Put.node w.in-Put.bytes.now ≡ message = search rules in
          subst P (sym w.self-is) (λ h. subst (λ (m : HostRequest). Serves g.F.FilePair.model m Done old w.put.new.self) is (w.in_ok-put-in-Put.ensures.serves h s))
      | in-Shape+in_ok-shape-in-Shape w ↦
          let is : HostRequest.Shape w.in-Shape.tree w.in-Shape.depth w.in-Shape.record_len ≡ message = search rules in
          subst P (sym w.self-is) (λ h. subst (λ (m : HostRequest). Serves g.F.FilePair.model m Done old w.shape.new.self) is (w.in_ok-shape-in-Shape.ensures.serves h s))
    ] in
    (Done, refl, serves honest)

pub returns-in_err-records-in-Fetch-clause-failure : goal.returns-in_err-records-in-Fetch-clause-failure
returns-in_err-records-in-Fetch-clause-failure g c full =
    let same = error_of c.from_residual.result c.in_err-records-in-Fetch.field-0.0 _ c.from_residual.ensures.1 full in
    reason_for g.F.FilePair.model c.args.self.now c.fetch.new.self (request_of c.args.request) c.fetch.new.self.failure
    (c.in_err-records-in-Fetch.ensures.failure (ap (λ (why : HostRefusal). Err why) same))

pub returns-in_err-store-in-Store-clause-failure : goal.returns-in_err-store-in-Store-clause-failure
returns-in_err-store-in-Store-clause-failure g c full =
    let same = error_of c.from_residual-in_err-store-in-Store.result c.in_err-store-in-Store.field-0.0 _ c.from_residual-in_err-store-in-Store.ensures.1 full in
    reason_for g.F.FilePair.model c.args.self.now c.store.new.self (request_of c.args.request) c.store.new.self.failure
    (c.in_err-store-in-Store.ensures.failure (ap (λ (why : HostRefusal). Err why) same))

pub returns-in_err-put-in-Put-clause-failure : goal.returns-in_err-put-in-Put-clause-failure
returns-in_err-put-in-Put-clause-failure g c full =
    let same = error_of c.from_residual-in_err-put-in-Put.result c.in_err-put-in-Put.field-0.0 _ c.from_residual-in_err-put-in-Put.ensures.1 full in
    reason_for g.F.FilePair.model c.args.self.now c.put.new.self (request_of c.args.request) c.put.new.self.failure
    (c.in_err-put-in-Put.ensures.failure (ap (λ (why : HostRefusal). Err why) same))

pub returns-in_err-shape-in-Shape-clause-failure : goal.returns-in_err-shape-in-Shape-clause-failure
returns-in_err-shape-in-Shape-clause-failure g c full =
    let same = error_of c.from_residual-in_err-shape-in-Shape.result c.in_err-shape-in-Shape.field-0.0 _ c.from_residual-in_err-shape-in-Shape.ensures.1 full in
    let is : HostRequest.Shape c.in-Shape.tree c.in-Shape.depth c.in-Shape.record_len ≡ request_of c.args.request = search rules in
    subst (λ (m : HostRequest). ReportsWhy g.F.FilePair.model c.args.self.now c.shape.new.self m) is
    (c.in_err-shape-in-Shape.ensures.failure (ap (λ (why : HostRefusal). Err why) same))

pub returns-in_err-records-in-Fetch-clause-served : goal.returns-in_err-records-in-Fetch-clause-served
returns-in_err-records-in-Fetch-clause-served g c = if_ok_none c.from_residual.result _ c.from_residual.ensures.0

pub returns-in_err-records-in-Fetch-clause-allowed : goal.returns-in_err-records-in-Fetch-clause-allowed
returns-in_err-records-in-Fetch-clause-allowed g c = on_ok_none c.from_residual.result _ c.from_residual.ensures.0

pub returns-in_err-records-in-Fetch-clause-after : goal.returns-in_err-records-in-Fetch-clause-after
returns-in_err-records-in-Fetch-clause-after g c = on_ok_none c.from_residual.result _ c.from_residual.ensures.0

pub returns-in_err-records-in-Fetch-clause-none_pending : goal.returns-in_err-records-in-Fetch-clause-none_pending
returns-in_err-records-in-Fetch-clause-none_pending g c = on_ok_none c.from_residual.result _ c.from_residual.ensures.0

pub returns-in_err-records-in-Fetch-clause-running : goal.returns-in_err-records-in-Fetch-clause-running
returns-in_err-records-in-Fetch-clause-running g c = on_ok_none c.from_residual.result _ c.from_residual.ensures.0

pub returns-in_err-records-in-Fetch-clause-same : goal.returns-in_err-records-in-Fetch-clause-same
returns-in_err-records-in-Fetch-clause-same g c = on_err_holds c.from_residual.result _ c.fetch.ensures.trees

pub returns-in_err-records-in-Fetch-clause-runs : goal.returns-in_err-records-in-Fetch-clause-runs
returns-in_err-records-in-Fetch-clause-runs g c = c.fetch.ensures.runs

pub returns-in_err-store-in-Store-clause-served : goal.returns-in_err-store-in-Store-clause-served
returns-in_err-store-in-Store-clause-served g c = if_ok_none c.from_residual-in_err-store-in-Store.result _ c.from_residual-in_err-store-in-Store.ensures.0

pub returns-in_err-store-in-Store-clause-allowed : goal.returns-in_err-store-in-Store-clause-allowed
returns-in_err-store-in-Store-clause-allowed g c = on_ok_none c.from_residual-in_err-store-in-Store.result _ c.from_residual-in_err-store-in-Store.ensures.0

pub returns-in_err-store-in-Store-clause-after : goal.returns-in_err-store-in-Store-clause-after
returns-in_err-store-in-Store-clause-after g c = on_ok_none c.from_residual-in_err-store-in-Store.result _ c.from_residual-in_err-store-in-Store.ensures.0

pub returns-in_err-store-in-Store-clause-none_pending : goal.returns-in_err-store-in-Store-clause-none_pending
returns-in_err-store-in-Store-clause-none_pending g c = on_ok_none c.from_residual-in_err-store-in-Store.result _ c.from_residual-in_err-store-in-Store.ensures.0

pub returns-in_err-store-in-Store-clause-running : goal.returns-in_err-store-in-Store-clause-running
returns-in_err-store-in-Store-clause-running g c = on_ok_none c.from_residual-in_err-store-in-Store.result _ c.from_residual-in_err-store-in-Store.ensures.0

pub returns-in_err-store-in-Store-clause-same : goal.returns-in_err-store-in-Store-clause-same
returns-in_err-store-in-Store-clause-same g c = on_err_holds c.from_residual-in_err-store-in-Store.result _ c.store.ensures.trees

pub returns-in_err-store-in-Store-clause-runs : goal.returns-in_err-store-in-Store-clause-runs
returns-in_err-store-in-Store-clause-runs g c = c.store.ensures.runs

pub returns-in_err-put-in-Put-clause-served : goal.returns-in_err-put-in-Put-clause-served
returns-in_err-put-in-Put-clause-served g c = if_ok_none c.from_residual-in_err-put-in-Put.result _ c.from_residual-in_err-put-in-Put.ensures.0

pub returns-in_err-put-in-Put-clause-allowed : goal.returns-in_err-put-in-Put-clause-allowed
returns-in_err-put-in-Put-clause-allowed g c = on_ok_none c.from_residual-in_err-put-in-Put.result _ c.from_residual-in_err-put-in-Put.ensures.0

pub returns-in_err-put-in-Put-clause-after : goal.returns-in_err-put-in-Put-clause-after
returns-in_err-put-in-Put-clause-after g c = on_ok_none c.from_residual-in_err-put-in-Put.result _ c.from_residual-in_err-put-in-Put.ensures.0

pub returns-in_err-put-in-Put-clause-none_pending : goal.returns-in_err-put-in-Put-clause-none_pending
returns-in_err-put-in-Put-clause-none_pending g c = on_ok_none c.from_residual-in_err-put-in-Put.result _ c.from_residual-in_err-put-in-Put.ensures.0

pub returns-in_err-put-in-Put-clause-running : goal.returns-in_err-put-in-Put-clause-running
returns-in_err-put-in-Put-clause-running g c = on_ok_none c.from_residual-in_err-put-in-Put.result _ c.from_residual-in_err-put-in-Put.ensures.0

pub returns-in_err-put-in-Put-clause-same : goal.returns-in_err-put-in-Put-clause-same
returns-in_err-put-in-Put-clause-same g c = on_err_holds c.from_residual-in_err-put-in-Put.result _ c.put.ensures.trees

pub returns-in_err-put-in-Put-clause-runs : goal.returns-in_err-put-in-Put-clause-runs
returns-in_err-put-in-Put-clause-runs g c = c.put.ensures.runs

pub returns-in_err-shape-in-Shape-clause-served : goal.returns-in_err-shape-in-Shape-clause-served
returns-in_err-shape-in-Shape-clause-served g c = if_ok_none c.from_residual-in_err-shape-in-Shape.result _ c.from_residual-in_err-shape-in-Shape.ensures.0

pub returns-in_err-shape-in-Shape-clause-allowed : goal.returns-in_err-shape-in-Shape-clause-allowed
returns-in_err-shape-in-Shape-clause-allowed g c = on_ok_none c.from_residual-in_err-shape-in-Shape.result _ c.from_residual-in_err-shape-in-Shape.ensures.0

pub returns-in_err-shape-in-Shape-clause-after : goal.returns-in_err-shape-in-Shape-clause-after
returns-in_err-shape-in-Shape-clause-after g c = on_ok_none c.from_residual-in_err-shape-in-Shape.result _ c.from_residual-in_err-shape-in-Shape.ensures.0

pub returns-in_err-shape-in-Shape-clause-none_pending : goal.returns-in_err-shape-in-Shape-clause-none_pending
returns-in_err-shape-in-Shape-clause-none_pending g c = on_ok_none c.from_residual-in_err-shape-in-Shape.result _ c.from_residual-in_err-shape-in-Shape.ensures.0

pub returns-in_err-shape-in-Shape-clause-running : goal.returns-in_err-shape-in-Shape-clause-running
returns-in_err-shape-in-Shape-clause-running g c = on_ok_none c.from_residual-in_err-shape-in-Shape.result _ c.from_residual-in_err-shape-in-Shape.ensures.0

pub returns-in_err-shape-in-Shape-clause-same : goal.returns-in_err-shape-in-Shape-clause-same
returns-in_err-shape-in-Shape-clause-same g c = on_err_holds c.from_residual-in_err-shape-in-Shape.result _ c.in_err-shape-in-Shape.ensures.same

pub returns-in_err-shape-in-Shape-clause-runs : goal.returns-in_err-shape-in-Shape-clause-runs
returns-in_err-shape-in-Shape-clause-runs g c = c.shape.ensures.runs

pub returns-in-Fetch-clause-runs : goal.returns-in-Fetch-clause-runs
returns-in-Fetch-clause-runs g c = c.fetch.ensures.runs

pub returns-in-Fetch-clause-running : goal.returns-in-Fetch-clause-running
returns-in-Fetch-clause-running g c = c.in_ok-records-in-Fetch.ensures.running

pub returns-clause-running : goal.returns-clause-running
returns-clause-running g c = elim c.match-request.branch [
  | in-Store+in_ok-store-in-Store w ↦ subst (λ (v : StoreValue g.row.F.Denot). v.file.has_stopped ≡ false) (sym w.self-is) w.in_ok-store-in-Store.ensures.running
  | in-Put+in_ok-put-in-Put w ↦ subst (λ (v : StoreValue g.row.F.Denot). v.file.has_stopped ≡ false) (sym w.self-is) w.in_ok-put-in-Put.ensures.running
  | in-Shape+in_ok-shape-in-Shape w ↦ subst (λ (v : StoreValue g.row.F.Denot). v.file.has_stopped ≡ false) (sym w.self-is) w.in_ok-shape-in-Shape.ensures.running
]
