use Rattle.std.proofs.Common.{◌≡◌, ◌⊎◌, ◌≤◌, ◌++◌, List, ℕ, Ok, Err, drop, length, map, take, refl, sym, ap, ◌∙◌, subst, inl, inr}
use Rattle.std.specs.Global.{Vec}
use Rattle.std.specs.List.{AllByRecursion, FoldsTo}
use Rattle.std.proofs.lemmas.List.{length-map}
use Rattle.std.proofs.lemmas.Result.{err_from_is_err_and}
use Rattle.oram_geometry.specs.Sizes.{depth_of}
use Rattle.oram_session.specs.declared.link.LinkFault.TheVariants.{Closed, OutOfMemory}
use Rattle.oram_link_laws.specs.Runs.{Exchange}
use Rattle.oram_rounds.specs.Batches.{BatchOutcome, batch_outcome_of, texts}
use Rattle.oram_near.specs.EmptyRecords.{made_with}
use Rattle.oram_near.specs.Near.{Near, rest_of}
use Rattle.oram_near.specs.NearCalls.{AreAnswered, ArePathBodies, IsRefusal, NearValue, TakesNear, client_of, is_in_order, store_answers}
use Rattle.oram_near.specs.PathRequests.{IsOfDevice, far_of, request_of, store_in}
use Rattle.oram_near.specs.declared.path_message.PathMessage.{PathMessage}
use Rattle.oram_near.proofs.Sent.{HasBatch, declines, encoded_by, given_by, held_bodies, held_by, in_order_by, kept_by, lost_by, paths_by, starved_by}
use Rattle.oram_near.proofs.Front.{front_are, front_by, front_sent}
use Rattle.oram_near.proofs.near_link.NearLink.send.Goals as goal

-- the batch of the link below
batch_by : {B : Type 0} (batches : B → List (List ℕ) → BatchOutcome → List Exchange → B → Type 0) (inner inner' : B) (below : List Exchange) (a b old sent : List (List ℕ)) (o outcome : BatchOutcome)
    → a ≡ old → b ≡ sent → o ≡ outcome → batches inner (a ++ b) o below inner' → batches inner (old ++ sent) outcome below inner'
batch_by batches inner inner' below a b old sent o outcome one two three batch =
    subst (λ (x : BatchOutcome). batches inner (old ++ sent) x below inner') three
    (subst (λ (x : List (List ℕ)). batches inner (old ++ x) o below inner') two (subst (λ (x : List (List ℕ)). batches inner (x ++ b) o below inner') one batch))

pub returns-in_err-requests : goal.returns-in_err-requests
returns-in_err-requests g c =
    let l : NearValue _ _ = c.args.self.now in
    let p = err_from_is_err_and c.from_residual.result c.from_residual.ensures.1 in
    let bodies = texts c.args.first.now ++ texts c.args.last.now in
    let fault = c.in_err-requests.field-0.0 in
    let len : c.record_len-record_len.result ≡ l.near.record_len = c.record_len-record_len.ensures.value ∙ ap (λ (x : NearValue _ _). x.near.record_len) c.self.view_is in
    let device = ap (λ (x : NearValue _ _). x.device) c.self.view_is in
    let why : (fault ≡ OutOfMemory) ⊎ ((fault ≡ Closed) × ¬ ArePathBodies l.device l.near.record_len bodies) =
    subst (λ d. (fault ≡ OutOfMemory) ⊎ ((fault ≡ Closed) × ¬ ArePathBodies d l.near.record_len bodies)) device
    (subst (λ (n : ℕ). (fault ≡ OutOfMemory) ⊎ ((fault ≡ Closed) × ¬ ArePathBodies c.self.inside.device n bodies)) len c.in_err-requests.ensures) in
    rw (p.1, p.2) (declines g.B.BatchLink.batches (made_with g.E.EmptyRecords.record_at) l bodies fault (elim why [ inl memory ↦ inl memory | inr closed ↦ inr (closed.0, inl closed.1) ]))

pub returns-then-not-is_in_order : goal.returns-then-not-is_in_order
returns-then-not-is_in_order g c =
    let l : NearValue _ _ = c.args.self.now in
    let i = c.self.inside in
    let items = c.in_ok-requests.requests.items in
    let bodies = texts c.args.first.now ++ texts c.args.last.now in
    let paths = paths_by i.device c.record_len-record_len.result i.near.record_len items items c.record_len-record_len.ensures.value refl c.in_ok-requests.ensures.1 in
    let here = subst (λ (x : NearValue _ _). AllByRecursion (IsOfDevice x.device x.near.record_len) (map request_of items)) c.self.view_is paths in
    let out = ap (λ (r : List PathMessage). is_in_order (map request_of r)) (sym c.deref.ensures.value) ∙ sym c.if-not-is_in_order.ensures in
    declines g.B.BatchLink.batches (made_with g.E.EmptyRecords.record_at) l bodies Closed
    (inr (refl, inr (record { requests = map request_of items; named = c.in_ok-requests.ensures.0; paths = here; out_of_order = out })))

pub returns-in_err-messages : goal.returns-in_err-messages
returns-in_err-messages g c =
    let p = err_from_is_err_and c.from_residual-in_err-messages.result c.from_residual-in_err-messages.ensures.1 in
    rw (p.1, p.2) (declines g.B.BatchLink.batches (made_with g.E.EmptyRecords.record_at) c.args.self.now (texts c.args.first.now ++ texts c.args.last.now) OutOfMemory (inl refl))

pub returns-in_err-reserve : goal.returns-in_err-reserve
returns-in_err-reserve g c =
    let i = c.self.inside in
    let l : NearValue _ _ = c.args.self.now in
    let bodies = texts c.args.first.now ++ texts c.args.last.now in
    let same = ap (λ (vs : List (Vec ℕ)). let x : NearValue _ _ = record { inner = i.inner; empty = record { maker = i.empty; rest = rest_of i.near }; device = i.device; near = i.near; unsure = map store_in (texts vs); coming = i.coming } in x) c.reserve.ensures.items ∙ c.self.view_is in
    let p = err_from_is_err_and c.from_residual-in_err-reserve.result c.from_residual-in_err-reserve.ensures.1 in
    rw (p.1, p.2) (subst (HasBatch g.B.BatchLink.batches (made_with g.E.EmptyRecords.record_at) l bodies (Err OutOfMemory)) (sym same)
    (declines g.B.BatchLink.batches (made_with g.E.EmptyRecords.record_at) l bodies OutOfMemory (inl refl)))

pub store_each-requires-clause-paths : goal.store_each-requires-clause-paths
store_each-requires-clause-paths g c =
    paths_by c.self.inside.device c.record_len-record_len.result c.self.inside.near.record_len c.in_ok-requests.requests.items c.deref-4.result.now c.record_len-record_len.ensures.value c.deref-4.ensures.value c.in_ok-requests.ensures.1

pub invariant_of-self-in-Ok : goal.invariant_of-self-in-Ok
invariant_of-self-in-Ok g c =
    let i = c.self.inside in
    let inv = c.self.invariant in
    let near = i.near in
    let old = texts i.unsure.items in
    let front = texts c.forget_repeated.new.stores.items in
    let held = texts c.hold.new.stores.items in
    let sent = texts c.in_ok-messages.messages.items in
    let items = c.in_ok-requests.requests.items in
    let requests = map request_of items in
    let paths = paths_by i.device c.record_len-record_len.result near.record_len items items c.record_len-record_len.ensures.value refl c.in_ok-requests.ensures.1 in
    let encoded = encoded_by i.device near c.levels-levels.result c.record_len-record_len.result c.deref-2.result.now items sent c.levels-levels.ensures.value c.record_len-record_len.ensures.value c.deref-2.ensures.value c.in_ok-messages.ensures in
    let holds = held_by front front held sent (map (far_of i.device near.levels near.record_len) requests) c.hold.ensures refl encoded in
    let is_front = front_by i.unsure.items c.reserve.new.self.items c.forget_repeated.new.stores.items sent (texts c.deref-3.result.now) c.in_ok-reserve.ensures.items (ap texts c.deref-3.ensures.value) c.forget_repeated.ensures.value in
    let are = front_are i.device near.levels near.record_len front old sent is_front inv.3 in
    let levels = c.store_each.ensures.sizes.0 in
    let len = c.store_each.ensures.sizes.1 in
    let P : ℕ → Type 0 = λ n. n ≤ depth_of i.device 0 in (
      inv.0,
      inv.1 ∙ sym len,
      subst P (sym levels) inv.2,
      kept_by i.device near c.store_each.new.near held levels len (held_bodies i.device near.levels near.record_len front held sent requests inv.2 paths are encoded holds),
      ap length c.store_each.ensures.rest ∙ inv.4,
    )

pub give-requires-clause-paths : goal.give-requires-clause-paths
give-requires-clause-paths g c =
    paths_by c.self.inside.device c.record_len-record_len.result c.store_each.new.near.record_len c.in_ok-requests.requests.items c.deref-in-Ok.result.now
    (c.record_len-record_len.ensures.value ∙ sym c.store_each.ensures.sizes.1) c.deref-in-Ok.ensures.value c.in_ok-requests.ensures.1

pub returns-in_err-give-in-Ok : goal.returns-in_err-give-in-Ok
returns-in_err-give-in-Ok g c =
    let i = c.self.inside in
    let inv = c.self.invariant in
    let near = i.near in
    let old = texts i.unsure.items in
    let front = texts c.forget_repeated.new.stores.items in
    let held = texts c.hold.new.stores.items in
    let sent = texts c.in_ok-messages.messages.items in
    let items = c.in_ok-requests.requests.items in
    let requests = map request_of items in
    let paths = paths_by i.device c.record_len-record_len.result near.record_len items items c.record_len-record_len.ensures.value refl c.in_ok-requests.ensures.1 in
    let encoded = encoded_by i.device near c.levels-levels.result c.record_len-record_len.result c.deref-2.result.now items sent c.levels-levels.ensures.value c.record_len-record_len.ensures.value c.deref-2.ensures.value c.in_ok-messages.ensures in
    let holds = held_by front front held sent (map (far_of i.device near.levels near.record_len) requests) c.hold.ensures refl encoded in
    let is_front = front_by i.unsure.items c.reserve.new.self.items c.forget_repeated.new.stores.items sent (texts c.deref-3.result.now) c.in_ok-reserve.ensures.items (ap texts c.deref-3.ensures.value) c.forget_repeated.ensures.value in
    let are = front_are i.device near.levels near.record_len front old sent is_front inv.3 in
    let in_order = in_order_by items c.deref.result.now c.is_in_order.result c.deref.ensures.value c.is_in_order.ensures c.if-not-is_in_order.false in
    let stored = subst (λ (r : List PathMessage). FoldsTo {P = Near} (TakesNear i.device) near (map request_of r) c.store_each.new.near) c.deref-4.ensures.value c.store_each.ensures.stored in
    let batch = batch_by g.B.BatchLink.batches i.inner c.call_all-outcome.new.self c.call_all-outcome.ensures.0 (texts c.deref-5.result.now) (texts c.deref-6.result.now) front sent (batch_outcome_of c.call_all-outcome.result) (Ok (texts c.in-Ok.answers.items))
    (ap texts c.deref-5.ensures.value) (ap texts c.deref-6.ensures.value) (ap batch_outcome_of c.in-Ok.is) c.call_all-outcome.ensures.1 in
    let bodies = texts c.args.first.now ++ texts c.args.last.now in
    let same = c.give.ensures.same ∙ ap (λ (r : List ℕ). let x : NearValue _ _ = record { inner = c.call_all-outcome.new.self; empty = record { maker = i.empty; rest = r }; device = i.device; near = c.store_each.new.near; unsure = c.give.new.self.unsure; coming = i.coming } in x) c.store_each.ensures.rest in
    let p = err_from_is_err_and c.from_residual-in_err-give-in-Ok.result c.from_residual-in_err-give-in-Ok.ensures.1 in
    rw (p.1, p.2) (subst (λ (l : NearValue _ _). HasBatch g.B.BatchLink.batches (made_with g.E.EmptyRecords.record_at) l bodies (Err OutOfMemory) c.give.new.self) c.self.view_is
    (front_sent g.B.BatchLink.batches (made_with g.E.EmptyRecords.record_at) i.inner (record { maker = i.empty; rest = rest_of near }) i.device near i.coming c.give.new.self bodies old front sent requests (Err OutOfMemory) inv.2 paths inv.3 encoded is_front
    (starved_by g.B.BatchLink.batches (made_with g.E.EmptyRecords.record_at) i.inner c.call_all-outcome.new.self (record { maker = i.empty; rest = rest_of near }) i.device near c.store_each.new.near i.coming front held sent bodies requests c.call_all-outcome.ensures.0 inv.2 c.in_ok-requests.ensures.0 paths in_order stored are encoded holds
    c.give.new.self (texts c.in-Ok.answers.items) same c.in_err-give-in-Ok.ensures.gives batch)))

pub returns-in-Ok : goal.returns-in-Ok
returns-in-Ok g c =
    let i = c.self.inside in
    let inv = c.self.invariant in
    let near = i.near in
    let old = texts i.unsure.items in
    let front = texts c.forget_repeated.new.stores.items in
    let held = texts c.hold.new.stores.items in
    let sent = texts c.in_ok-messages.messages.items in
    let items = c.in_ok-requests.requests.items in
    let requests = map request_of items in
    let paths = paths_by i.device c.record_len-record_len.result near.record_len items items c.record_len-record_len.ensures.value refl c.in_ok-requests.ensures.1 in
    let encoded = encoded_by i.device near c.levels-levels.result c.record_len-record_len.result c.deref-2.result.now items sent c.levels-levels.ensures.value c.record_len-record_len.ensures.value c.deref-2.ensures.value c.in_ok-messages.ensures in
    let holds = held_by front front held sent (map (far_of i.device near.levels near.record_len) requests) c.hold.ensures refl encoded in
    let is_front = front_by i.unsure.items c.reserve.new.self.items c.forget_repeated.new.stores.items sent (texts c.deref-3.result.now) c.in_ok-reserve.ensures.items (ap texts c.deref-3.ensures.value) c.forget_repeated.ensures.value in
    let are = front_are i.device near.levels near.record_len front old sent is_front inv.3 in
    let in_order = in_order_by items c.deref.result.now c.is_in_order.result c.deref.ensures.value c.is_in_order.ensures c.if-not-is_in_order.false in
    let stored = subst (λ (r : List PathMessage). FoldsTo {P = Near} (TakesNear i.device) near (map request_of r) c.store_each.new.near) c.deref-4.ensures.value c.store_each.ensures.stored in
    let batch = batch_by g.B.BatchLink.batches i.inner c.call_all-outcome.new.self c.call_all-outcome.ensures.0 (texts c.deref-5.result.now) (texts c.deref-6.result.now) front sent (batch_outcome_of c.call_all-outcome.result) (Ok (texts c.in-Ok.answers.items))
    (ap texts c.deref-5.ensures.value) (ap texts c.deref-6.ensures.value) (ap batch_outcome_of c.in-Ok.is) c.call_all-outcome.ensures.1 in
    let bodies = texts c.args.first.now ++ texts c.args.last.now in
    let same = c.give.ensures.same ∙ ap (λ (r : List ℕ). let x : NearValue _ _ = record { inner = c.call_all-outcome.new.self; empty = record { maker = i.empty; rest = r }; device = i.device; near = c.store_each.new.near; unsure = c.give.new.self.unsure; coming = i.coming } in x) c.store_each.ensures.rest in
    let gives = c.in_ok-give-in-Ok.ensures.gives in
    let n = c.len-before.result in
    let count : n ≡ length front =
    c.len-before.ensures ∙ sym c.deref-5.ensures.len ∙ ap length c.deref-5.ensures.value ∙ sym (length-map c.forget_repeated.new.stores.items (λ (v : Vec ℕ). v.items)) in
    let refused = subst (λ (vs : List (Vec ℕ)). IsRefusal (take n (texts vs) ++ store_answers requests (drop n (texts vs))) gives.0) c.deref-in-Ok-2.ensures.value
    (subst (λ (r : List PathMessage). IsRefusal (take n (texts c.deref-in-Ok-2.result.now) ++ store_answers (map request_of r) (drop n (texts c.deref-in-Ok-2.result.now))) gives.0) c.deref-in-Ok.ensures.value gives.1) in
    let client = client_of (made_with g.E.EmptyRecords.record_at) (record { inner = c.call_all-outcome.new.self; empty = record { maker = i.empty; rest = rest_of c.store_each.new.near }; device = i.device; near = c.store_each.new.near; unsure = map store_in held; coming = i.coming }) in
    let answers_now = subst (λ (vs : List (Vec ℕ)). AreAnswered client gives.0 requests (drop n (texts vs)) (texts c.in_ok-give-in-Ok.field-0.items)) c.deref-in-Ok-2.ensures.value
    (subst (λ (r : List PathMessage). AreAnswered client gives.0 (map request_of r) (drop n (texts c.deref-in-Ok-2.result.now)) (texts c.in_ok-give-in-Ok.field-0.items)) c.deref-in-Ok.ensures.value gives.2) in
    let answers = subst (λ (r : List ℕ). AreAnswered (client_of (made_with g.E.EmptyRecords.record_at) (record { inner = c.call_all-outcome.new.self; empty = record { maker = i.empty; rest = r }; device = i.device; near = c.store_each.new.near; unsure = map store_in held; coming = i.coming })) gives.0 requests (drop n (texts c.in-Ok.answers.items)) (texts c.in_ok-give-in-Ok.field-0.items))
    c.store_each.ensures.rest answers_now in
    subst (λ (l : NearValue _ _). HasBatch g.B.BatchLink.batches (made_with g.E.EmptyRecords.record_at) l bodies (Ok (texts c.in_ok-give-in-Ok.field-0.items)) c.give.new.self) c.self.view_is
    (front_sent g.B.BatchLink.batches (made_with g.E.EmptyRecords.record_at) i.inner (record { maker = i.empty; rest = rest_of near }) i.device near i.coming c.give.new.self bodies old front sent requests (Ok (texts c.in_ok-give-in-Ok.field-0.items)) inv.2 paths inv.3 encoded is_front
    (given_by g.B.BatchLink.batches (made_with g.E.EmptyRecords.record_at) i.inner c.call_all-outcome.new.self (record { maker = i.empty; rest = rest_of near }) i.device near c.store_each.new.near i.coming front held sent bodies requests c.call_all-outcome.ensures.0 inv.2 c.in_ok-requests.ensures.0 paths in_order stored are encoded holds
    c.give.new.self (texts c.in-Ok.answers.items) (texts c.in_ok-give-in-Ok.field-0.items) n gives.0 same count refused answers gives.3 batch))

pub invariant_of-self-in-Err : goal.invariant_of-self-in-Err
invariant_of-self-in-Err g c =
    let i = c.self.inside in
    let inv = c.self.invariant in
    let near = i.near in
    let old = texts i.unsure.items in
    let front = texts c.forget_repeated.new.stores.items in
    let held = texts c.hold.new.stores.items in
    let sent = texts c.in_ok-messages.messages.items in
    let items = c.in_ok-requests.requests.items in
    let requests = map request_of items in
    let paths = paths_by i.device c.record_len-record_len.result near.record_len items items c.record_len-record_len.ensures.value refl c.in_ok-requests.ensures.1 in
    let encoded = encoded_by i.device near c.levels-levels.result c.record_len-record_len.result c.deref-2.result.now items sent c.levels-levels.ensures.value c.record_len-record_len.ensures.value c.deref-2.ensures.value c.in_ok-messages.ensures in
    let holds = held_by front front held sent (map (far_of i.device near.levels near.record_len) requests) c.hold.ensures refl encoded in
    let is_front = front_by i.unsure.items c.reserve.new.self.items c.forget_repeated.new.stores.items sent (texts c.deref-3.result.now) c.in_ok-reserve.ensures.items (ap texts c.deref-3.ensures.value) c.forget_repeated.ensures.value in
    let are = front_are i.device near.levels near.record_len front old sent is_front inv.3 in
    let levels = c.store_each.ensures.sizes.0 in
    let len = c.store_each.ensures.sizes.1 in
    let P : ℕ → Type 0 = λ n. n ≤ depth_of i.device 0 in (
      inv.0,
      inv.1 ∙ sym len,
      subst P (sym levels) inv.2,
      kept_by i.device near c.store_each.new.near held levels len (held_bodies i.device near.levels near.record_len front held sent requests inv.2 paths are encoded holds),
      ap length c.store_each.ensures.rest ∙ inv.4,
    )

pub returns : goal.returns
returns g c =
    let i = c.self.inside in
    let inv = c.self.invariant in
    let near = i.near in
    let old = texts i.unsure.items in
    let front = texts c.forget_repeated.new.stores.items in
    let held = texts c.hold.new.stores.items in
    let sent = texts c.in_ok-messages.messages.items in
    let items = c.in_ok-requests.requests.items in
    let requests = map request_of items in
    let paths = paths_by i.device c.record_len-record_len.result near.record_len items items c.record_len-record_len.ensures.value refl c.in_ok-requests.ensures.1 in
    let encoded = encoded_by i.device near c.levels-levels.result c.record_len-record_len.result c.deref-2.result.now items sent c.levels-levels.ensures.value c.record_len-record_len.ensures.value c.deref-2.ensures.value c.in_ok-messages.ensures in
    let holds = held_by front front held sent (map (far_of i.device near.levels near.record_len) requests) c.hold.ensures refl encoded in
    let is_front = front_by i.unsure.items c.reserve.new.self.items c.forget_repeated.new.stores.items sent (texts c.deref-3.result.now) c.in_ok-reserve.ensures.items (ap texts c.deref-3.ensures.value) c.forget_repeated.ensures.value in
    let are = front_are i.device near.levels near.record_len front old sent is_front inv.3 in
    let in_order = in_order_by items c.deref.result.now c.is_in_order.result c.deref.ensures.value c.is_in_order.ensures c.if-not-is_in_order.false in
    let stored = subst (λ (r : List PathMessage). FoldsTo {P = Near} (TakesNear i.device) near (map request_of r) c.store_each.new.near) c.deref-4.ensures.value c.store_each.ensures.stored in
    let batch = batch_by g.B.BatchLink.batches i.inner c.call_all-outcome.new.self c.call_all-outcome.ensures.0 (texts c.deref-5.result.now) (texts c.deref-6.result.now) front sent (batch_outcome_of c.call_all-outcome.result) (Err c.in-Err.fault)
    (ap texts c.deref-5.ensures.value) (ap texts c.deref-6.ensures.value) (ap batch_outcome_of c.in-Err.is) c.call_all-outcome.ensures.1 in
    let bodies = texts c.args.first.now ++ texts c.args.last.now in
    let now : NearValue _ _ = record { inner = c.call_all-outcome.new.self; empty = record { maker = i.empty; rest = rest_of c.store_each.new.near }; device = i.device; near = c.store_each.new.near; unsure = map store_in held; coming = i.coming } in
    let there : NearValue _ _ = record { inner = c.call_all-outcome.new.self; empty = record { maker = i.empty; rest = rest_of near }; device = i.device; near = c.store_each.new.near; unsure = map store_in held; coming = i.coming } in
    subst (λ (l : NearValue _ _). HasBatch g.B.BatchLink.batches (made_with g.E.EmptyRecords.record_at) l bodies (Err c.in-Err.fault) now) c.self.view_is
    (subst (λ (r : List ℕ). HasBatch g.B.BatchLink.batches (made_with g.E.EmptyRecords.record_at) (record { inner = i.inner; empty = record { maker = i.empty; rest = rest_of near }; device = i.device; near = near; unsure = map store_in old; coming = i.coming }) bodies (Err c.in-Err.fault) (record { inner = c.call_all-outcome.new.self; empty = record { maker = i.empty; rest = r }; device = i.device; near = c.store_each.new.near; unsure = map store_in held; coming = i.coming })) (sym c.store_each.ensures.rest)
    (front_sent g.B.BatchLink.batches (made_with g.E.EmptyRecords.record_at) i.inner (record { maker = i.empty; rest = rest_of near }) i.device near i.coming there bodies old front sent requests (Err c.in-Err.fault) inv.2 paths inv.3 encoded is_front
    (lost_by g.B.BatchLink.batches (made_with g.E.EmptyRecords.record_at) i.inner c.call_all-outcome.new.self (record { maker = i.empty; rest = rest_of near }) i.device near c.store_each.new.near i.coming front held sent bodies requests c.call_all-outcome.ensures.0 inv.2 c.in_ok-requests.ensures.0 paths in_order stored are encoded holds
    c.in-Err.fault batch)))
