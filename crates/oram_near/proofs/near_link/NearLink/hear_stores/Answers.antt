use Rattle.std.proofs.Common.{◌≡◌, ℕ, [], Bool, Option, Some, None, length, map, if◌then◌else◌, refl, sym, ap, ◌∙◌}
use Rattle.std.specs.Global.{Vec}
use Rattle.std.specs.Prelude.{is_some}
use Rattle.std.proofs.lemmas.List.{length-map}
use Rattle.std.proofs.lemmas.Result.{err_from_is_err_and}
use Rattle.oram_session.specs.declared.link.LinkFault.TheVariants.{OutOfMemory}
use Rattle.oram_rounds.specs.Batches.{texts}
use Rattle.oram_levels.specs.Messages.{levels_body}
use Rattle.oram_near.specs.ComingAnswers.{Coming}
use Rattle.oram_near.specs.EmptyRecords.{made_with}
use Rattle.oram_near.specs.Near.{rest_of}
use Rattle.oram_near.specs.NearCalls.{NearValue}
use Rattle.oram_near.specs.NearStreams.{bytes_of}
use Rattle.oram_near.specs.PathRequests.{store_in}
use Rattle.oram_near.proofs.FarStores.{same_bodies}
use Rattle.oram_near.proofs.StreamCalls.{stores_fault, stores_heard, stores_memory}
use Rattle.oram_near.proofs.near_link.NearLink.hear_stores.Goals as goal

same_some : (o : Option (Vec ℕ)) → is_some (bytes_of o) ≡ is_some o
same_some None = refl
same_some (Some x) = refl

pub returns-in_err-refusal : goal.returns-in_err-refusal
returns-in_err-refusal g c =
    let i = c.self.inside in
    let inv = c.self.invariant in
    let k : NearValue _ _ = record { inner = i.inner; empty = record { maker = i.empty; rest = rest_of i.near }; device = i.device; near = i.near; unsure = map store_in (texts i.unsure.items); coming = i.coming } in
    let p = err_from_is_err_and c.from_residual.result c.from_residual.ensures.1 in
    let stores = texts c.deref.result.now in
    let named : stores ≡ map levels_body (map store_in (texts i.unsure.items)) = ap texts c.deref.ensures.value ∙ sym (same_bodies i.device i.near.levels i.near.record_len (texts i.unsure.items) inv.3) in
    rw (p.1, p.2)
    (stores_fault g.B.BatchLink.batches g.B.BatchLink.streams (made_with g.E.EmptyRecords.record_at) k c.args.self.now c.self.view_is c.hear.new.link stores named c.in_err-refusal.field-0.0 i.coming c.in_err-refusal.ensures)

pub returns-in_err-ready : goal.returns-in_err-ready
returns-in_err-ready g c =
    let i = c.self.inside in
    let inv = c.self.invariant in
    let k : NearValue _ _ = record { inner = i.inner; empty = record { maker = i.empty; rest = rest_of i.near }; device = i.device; near = i.near; unsure = map store_in (texts i.unsure.items); coming = i.coming } in
    let p = err_from_is_err_and c.from_residual-in_err-ready.result c.from_residual-in_err-ready.ensures.1 in
    let stores = texts c.deref.result.now in
    let named : stores ≡ map levels_body (map store_in (texts i.unsure.items)) = ap texts c.deref.ensures.value ∙ sym (same_bodies i.device i.near.levels i.near.record_len (texts i.unsure.items) inv.3) in
    rw (p.1, p.2)
    (stores_memory g.B.BatchLink.batches g.B.BatchLink.streams (made_with g.E.EmptyRecords.record_at) k c.args.self.now c.self.view_is c.hear.new.link stores named (bytes_of c.in_ok-refusal.refusal) c.in_ok-refusal.ensures
    g.met.B.BatchLink.ends_as_batch g.met.B.BatchLink.are_batches OutOfMemory i.coming)

pub returns : goal.returns
returns g c =
    let i = c.self.inside in
    let inv = c.self.invariant in
    let k : NearValue _ _ = record { inner = i.inner; empty = record { maker = i.empty; rest = rest_of i.near }; device = i.device; near = i.near; unsure = map store_in (texts i.unsure.items); coming = i.coming } in
    let stores = texts c.deref.result.now in
    let named : stores ≡ map levels_body (map store_in (texts i.unsure.items)) = ap texts c.deref.ensures.value ∙ sym (same_bodies i.device i.near.levels i.near.record_len (texts i.unsure.items) inv.3) in
    let refusal = c.in_ok-refusal.refusal in
    let ready = texts c.in_ok-ready.ready.items in
    let long : length ready ≡ length stores =
    length-map c.in_ok-ready.ready.items (λ (v : Vec ℕ). v.items) ∙ c.in_ok-ready.ensures.count ∙ c.len.ensures ∙ sym c.deref.ensures.len ∙ sym (length-map c.deref.result.now (λ (v : Vec ℕ). v.items)) in
    let with : Bool → Coming → NearValue _ _ = λ b coming. record k { inner = c.hear.new.link; coming = coming; unsure = (if b then k.unsure else []) } in
    let m_is = c.settle.ensures ∙ ap (λ (b : Bool). with b c.make_ready.new.self) (c.is_some-refused.ensures ∙ sym (same_some refusal)) ∙ ap (with (is_some (bytes_of refusal))) c.make_ready.ensures in
    stores_heard g.B.BatchLink.batches g.B.BatchLink.streams (made_with g.E.EmptyRecords.record_at) k c.args.self.now c.self.view_is c.hear.new.link stores named (bytes_of refusal) c.in_ok-refusal.ensures
    g.met.B.BatchLink.ends_as_batch ready c.settle.new.self long c.in_ok-ready.ensures.same m_is
