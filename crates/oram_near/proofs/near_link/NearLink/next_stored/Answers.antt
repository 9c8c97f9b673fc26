use Rattle.std.proofs.Common.{◌≡◌, ℕ, List, [], length, map, sym, ap, ◌∙◌, subst}
use Rattle.std.proofs.lemmas.Result.{err_from_is_err_and}
use Rattle.oram_rounds.specs.Batches.{texts}
use Rattle.oram_near.specs.ComingAnswers.{Coming}
use Rattle.oram_near.specs.EmptyRecords.{made_with}
use Rattle.oram_near.specs.Near.{rest_of}
use Rattle.oram_near.specs.NearCalls.{NearValue}
use Rattle.oram_near.specs.PathRequests.{store_in}
use Rattle.oram_near.proofs.StreamCalls.{store_fault, store_heard, store_lost, store_ready}
use Rattle.oram_near.proofs.StreamSteps.{Fetching, Heard}
use Rattle.oram_near.proofs.near_link.NearLink.next_stored.Goals as goal

pub returns-in-Some : goal.returns-in-Some
returns-in-Some g c =
    let i = c.self.inside in
    let k : NearValue _ _ = record { inner = i.inner; empty = record { maker = i.empty; rest = rest_of i.near }; device = i.device; near = i.near; unsure = map store_in (texts i.unsure.items); coming = i.coming } in
    store_ready g.B.BatchLink.batches g.B.BatchLink.streams (made_with g.E.EmptyRecords.record_at) k c.args.self.now c.self.view_is c.in-Some.answer.items c.take_ready.new.self c.in-Some.ensures.fetches c.in-Some.ensures.ready

pub returns-in_err-hear_stores : goal.returns-in_err-hear_stores
returns-in_err-hear_stores g c =
    let i = c.self.inside in
    let k : Coming → NearValue _ _ = λ coming. record { inner = i.inner; empty = record { maker = i.empty; rest = rest_of i.near }; device = i.device; near = i.near; unsure = map store_in (texts i.unsure.items); coming = coming } in
    let p = err_from_is_err_and c.from_residual.result c.from_residual.ensures.1 in
    let same = c.in_default.ensures.ready in
    rw (p.1, p.2)
    (store_fault g.B.BatchLink.batches g.B.BatchLink.streams (made_with g.E.EmptyRecords.record_at) (k c.take_ready.new.self) c.args.self.now (ap k same.1 ∙ c.self.view_is) (ap (λ (x : Coming). x.ready) same.1 ∙ same.0)
    c.in_err-hear_stores.field-0.0 c.hear_stores.new.self c.in_err-hear_stores.ensures)

pub returns-in_default-take_ready : goal.returns-in_default-take_ready
returns-in_default-take_ready g c =
    let i = c.self.inside in
    let k : Coming → NearValue _ _ = λ coming. record { inner = i.inner; empty = record { maker = i.empty; rest = rest_of i.near }; device = i.device; near = i.near; unsure = map store_in (texts i.unsure.items); coming = coming } in
    let same = c.in_default.ensures.ready in
    let nothing : c.hear_stores.new.self.coming.ready ≡ [] = ap (λ (x : NearValue _ _). x.coming.ready) (sym c.self-2.view_is) ∙ c.in_default-take_ready.ensures.ready.0 in
    λ tree leaf records l bodies answers rest h next.
    absurd (store_lost g.B.BatchLink.batches g.B.BatchLink.streams (made_with g.E.EmptyRecords.record_at) (k c.take_ready.new.self) c.args.self.now (ap k same.1 ∙ c.self.view_is) (ap (λ (x : Coming). x.ready) same.1 ∙ same.0)
    c.hear_stores.new.self c.in_ok-hear_stores.ensures nothing tree leaf records l bodies answers rest h next)

pub returns : goal.returns
returns g c =
    let i = c.self.inside in
    let j = c.self-2.inside in
    let batches = g.B.BatchLink.batches in
    let streams = g.B.BatchLink.streams in
    let at = made_with g.E.EmptyRecords.record_at in
    let k : Coming → NearValue _ _ = λ coming. record { inner = i.inner; empty = record { maker = i.empty; rest = rest_of i.near }; device = i.device; near = i.near; unsure = map store_in (texts i.unsure.items); coming = coming } in
    let m : NearValue _ _ = record { inner = j.inner; empty = record { maker = j.empty; rest = rest_of j.near }; device = j.device; near = j.near; unsure = map store_in (texts j.unsure.items); coming = j.coming } in
    let same = c.in_default.ensures.ready in
    let heard = subst (λ (x : NearValue _ _). (l : NearValue _ _) (bodies answers : List (List ℕ)) (f : Fetching batches streams at l bodies answers (k c.take_ready.new.self)) → f.rest ≡ []
    → Heard batches streams at l bodies answers x × (length x.coming.ready ≡ length f.begun.stores)) (sym c.self-2.view_is) c.in_ok-hear_stores.ensures in
    store_heard batches streams at (k c.take_ready.new.self) c.args.self.now (ap k same.1 ∙ c.self.view_is) (ap (λ (x : Coming). x.ready) same.1 ∙ same.0) m heard
    c.in-Some-take_ready.answer.items c.take_ready-2.new.self c.in-Some-take_ready.ensures.fetches c.in-Some-take_ready.ensures.ready
