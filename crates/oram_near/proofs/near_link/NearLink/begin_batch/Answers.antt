use Rattle.std.proofs.Common.{arith, ◌≡◌, ◌≤◌, ◌==◌, ◌++◌, [], List, ℕ, true, length, map, refl, sym, ap, ◌∙◌, subst}
use Rattle.std.specs.Global.{Vec}
use Rattle.std.specs.List.{AllByRecursion, FoldsTo}
use Rattle.std.specs.Prelude.{vec_len}
use Rattle.std.proofs.lemmas.Bool.{eqb-true}
use Rattle.oram_geometry.specs.Sizes.{depth_of}
use Rattle.oram_rounds.specs.Batches.{texts}
use Rattle.oram_rounds.specs.Streams.{BeginsBatch}
use Rattle.oram_near.specs.ComingAnswers.{Coming}
use Rattle.oram_near.specs.EmptyRecords.{WithRest, made_with}
use Rattle.oram_near.specs.Near.{Near, rest_of}
use Rattle.oram_near.specs.NearCalls.{NearValue, TakesNear}
use Rattle.oram_near.specs.NearStreams.{IsReadBatch, NearBatches, NearStreams}
use Rattle.oram_near.specs.PathRequests.{IsOfDevice, request_of, store_in}
use Rattle.oram_near.specs.declared.path_message.PathMessage.{PathMessage}
use Rattle.oram_near.specs.StreamsEnd.{nothing_left}
use Rattle.oram_near.proofs.Front.{IsFront, front_by}
use Rattle.oram_near.proofs.Sent.{kept_by}
use Rattle.oram_near.proofs.StreamCalls.{begins, held_now}
use Rattle.oram_near.proofs.near_link.NearLink.begin_batch.Goals as goal

-- by the link's own numbers
read_by : (P : ℕ → ℕ → Type 0) (levels len n m : ℕ) → levels ≡ n → len ≡ m → P levels len → P n m
read_by P levels len n m one two is = subst (λ (k : ℕ). P n k) two (subst (λ (k : ℕ). P k len) one is)

-- no STORE goes before the batch
none_before : (front : Vec (Vec ℕ)) (old sent : List (List ℕ)) → (vec_len front == 0) ≡ true → IsFront (texts front.items) old sent → IsFront [] old sent
none_before front old sent none is =
    let zero : vec_len front ≡ 0 = eqb-true (vec_len front) 0 none in
    let items : front.items ≡ [] = nothing_left front.items (omega (arith, zero, front.ok.0)) in
    subst (λ (vs : List (Vec ℕ)). IsFront (texts vs) old sent) items is

pub store_each-requires-clause-paths : goal.store_each-requires-clause-paths
store_each-requires-clause-paths g c =
    let i = c.self.inside in
    subst (λ (r : List PathMessage). AllByRecursion (IsOfDevice i.device i.near.record_len) (map request_of r)) (sym c.deref-2.ensures.value)
    (subst (λ (n : ℕ). AllByRecursion (IsOfDevice i.device n) (map request_of c.in-Ok.batch.requests.items)) c.record_len-record_len.ensures.value c.in-Ok.ensures.store_paths)

pub invariant_of-self-2 : goal.invariant_of-self-2
invariant_of-self-2 g c =
    let i = c.self.inside in
    let inv = c.self.invariant in
    let batch = c.in-Ok.batch in
    let first = texts c.args.first.now in
    let last = texts c.args.last.now in
    let fetches = texts batch.fetches.items in
    let stores = texts batch.stores.items in
    let requests = map request_of batch.requests.items in
    let read = read_by (λ (levels len : ℕ). IsReadBatch i.device levels len first last fetches stores requests) c.levels-levels.result c.record_len-record_len.result i.near.levels i.near.record_len
    c.levels-levels.ensures.value c.record_len-record_len.ensures.value c.in-Ok.ensures in
    let stored = subst (λ (r : List PathMessage). FoldsTo {P = Near} (TakesNear i.device) i.near (map request_of r) c.store_each.new.near) c.deref-2.ensures.value c.store_each.ensures.stored in
    let front = none_before c.forget_repeated.new.stores (texts i.unsure.items) stores (sym c.is_empty.ensures ∙ c.if-not-is_empty.false)
    (front_by i.unsure.items i.unsure.items c.forget_repeated.new.stores.items stores (texts c.deref.result.now) refl (ap texts c.deref.ensures.value) c.forget_repeated.ensures.value) in
    let levels = c.store_each.ensures.sizes.0 in
    let len = c.store_each.ensures.sizes.1 in
    let held = held_now g.B.BatchLink.batches g.B.BatchLink.streams (made_with g.E.EmptyRecords.record_at) i.inner (record { maker = i.empty; rest = rest_of i.near }) i.device i.near c.store_each.new.near i.coming (texts i.unsure.items)
    first last fetches stores requests read inv.2 stored inv.3 front in
    let P : ℕ → Type 0 = λ n. n ≤ depth_of i.device 0 in
    (inv.0, inv.1 ∙ sym len, subst P (sym levels) inv.2, kept_by i.device i.near c.store_each.new.near stores levels len held, ap length c.store_each.ensures.rest ∙ inv.4)

pub returns : goal.returns
returns g c =
    let i = c.self.inside in
    let inv = c.self.invariant in
    let batch = c.in-Ok.batch in
    let first = texts c.args.first.now in
    let last = texts c.args.last.now in
    let fetches = texts batch.fetches.items in
    let stores = texts batch.stores.items in
    let requests = map request_of batch.requests.items in
    let read = read_by (λ (levels len : ℕ). IsReadBatch i.device levels len first last fetches stores requests) c.levels-levels.result c.record_len-record_len.result i.near.levels i.near.record_len
    c.levels-levels.ensures.value c.record_len-record_len.ensures.value c.in-Ok.ensures in
    let stored = subst (λ (r : List PathMessage). FoldsTo {P = Near} (TakesNear i.device) i.near (map request_of r) c.store_each.new.near) c.deref-2.ensures.value c.store_each.ensures.stored in
    let front = none_before c.forget_repeated.new.stores (texts i.unsure.items) stores (sym c.is_empty.ensures ∙ c.if-not-is_empty.false)
    (front_by i.unsure.items i.unsure.items c.forget_repeated.new.stores.items stores (texts c.deref.result.now) refl (ap texts c.deref.ensures.value) c.forget_repeated.ensures.value) in
    let at = made_with g.E.EmptyRecords.record_at in
    let begun = subst (λ (a : List (Vec ℕ)). BeginsBatch g.B.BatchLink.batches g.B.BatchLink.streams i.inner (fetches ++ texts a) c.begin-begun.result c.begin-begun.new.self) c.deref-4.ensures.value
    (subst (λ (a : List (Vec ℕ)). BeginsBatch g.B.BatchLink.batches g.B.BatchLink.streams i.inner (texts a ++ texts c.deref-4.result.now) c.begin-begun.result c.begin-begun.new.self) c.deref-3.ensures.value c.begin-begun.ensures) in
    let before_is : NearValue _ _ = record { inner = i.inner; empty = record { maker = i.empty; rest = rest_of i.near }; device = i.device; near = i.near; unsure = map store_in (texts i.unsure.items); coming = i.coming } in
    let all = begins g.B.BatchLink.batches g.B.BatchLink.streams at i.inner (record { maker = i.empty; rest = rest_of i.near }) i.device i.near c.store_each.new.near i.coming (texts i.unsure.items) first last fetches stores requests
    read inv.2 stored inv.3 front g.met.B.BatchLink.are_batches c.begin-begun.result c.begin-begun.new.self begun in
    let now : List ℕ → Coming → NearValue g.row.B.Denot (WithRest g.row.E.Denot) = λ rest coming.
    record { inner = c.begin-begun.new.self; empty = record { maker = i.empty; rest = rest }; device = i.device; near = c.store_each.new.near; unsure = map store_in stores; coming = coming } in
    let Begins : NearValue _ _ → NearValue _ _ → Type 0 = λ l m.
    BeginsBatch (NearBatches g.B.BatchLink.batches g.B.BatchLink.streams at) (NearStreams g.B.BatchLink.batches g.B.BatchLink.streams at) l (first ++ last) c.begin-begun.result m in
    subst (λ (l : NearValue _ _). Begins l (now (rest_of c.store_each.new.near) c.of.result)) c.self.view_is
    (subst (λ (x : Coming). Begins before_is (now (rest_of c.store_each.new.near) x)) (sym c.of.ensures) (subst (λ (r : List ℕ). Begins before_is (now r (record { fetches = fetches; ready = [] }))) (sym c.store_each.ensures.rest) all))
