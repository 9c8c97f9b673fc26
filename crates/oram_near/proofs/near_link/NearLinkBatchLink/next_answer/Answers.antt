use Rattle.std.proofs.Common.{ℕ, List, map, sym, ap, ◌∙◌, subst}
use Rattle.oram_session.specs.Outcome.{outcome_of}
use Rattle.oram_rounds.specs.Batches.{texts}
use Rattle.oram_rounds.specs.Streams.{GivesNext}
use Rattle.oram_near.specs.EmptyRecords.{made_with}
use Rattle.oram_near.specs.Near.{rest_of}
use Rattle.oram_near.specs.NearCalls.{NearValue}
use Rattle.oram_near.specs.NearStreams.{NearBatches, NearStreams}
use Rattle.oram_near.specs.PathRequests.{IsOfDevice, path_body, request_of, store_in}
use Rattle.oram_near.specs.declared.path_message.PathMessage.{PathMessage}
use Rattle.oram_near.proofs.StreamCalls.{asked_of_device}
use Rattle.oram_near.proofs.near_link.NearLinkBatchLink.next_answer.Goals as goal

pub returns-in-Some-Fetch : goal.returns-in-Some-Fetch
returns-in-Some-Fetch g c =
    let batches = NearBatches g.B.BatchLink.batches g.B.BatchLink.streams (made_with g.E.EmptyRecords.record_at) in
    let streams = NearStreams g.B.BatchLink.batches g.B.BatchLink.streams (made_with g.E.EmptyRecords.record_at) in
    let o = outcome_of c.next_fetched.result in
    subst (λ (b : List ℕ). GivesNext batches streams c.args.self.now b o c.next_fetched.new.self) (sym (c.in-Some-Fetch.ensures.1 ∙ ap (λ (m : PathMessage). path_body (request_of m)) c.in-Some-Fetch.field-0-is))
    c.next_fetched.ensures

pub returns-in-Some-Store : goal.returns-in-Some-Store
returns-in-Some-Store g c =
    let batches = NearBatches g.B.BatchLink.batches g.B.BatchLink.streams (made_with g.E.EmptyRecords.record_at) in
    let streams = NearStreams g.B.BatchLink.batches g.B.BatchLink.streams (made_with g.E.EmptyRecords.record_at) in
    let o = outcome_of c.next_stored.result in
    let s = c.in-Some-Store in
    subst (λ (b : List ℕ). GivesNext batches streams c.args.self.now b o c.next_stored.new.self) (sym (s.ensures.1 ∙ ap (λ (m : PathMessage). path_body (request_of m)) s.field-0-is))
    (c.next_stored.ensures s.field-0-0 s.field-0-1 s.field-0-2.now)

pub returns-in-None : goal.returns-in-None
returns-in-None g c =
    let i = c.self.inside in
    let k : NearValue _ _ = record { inner = i.inner; empty = record { maker = i.empty; rest = rest_of i.near }; device = i.device; near = i.near; unsure = map store_in (texts i.unsure.items); coming = i.coming } in
    λ l bodies answers rest h next.
    let asked = asked_of_device g.B.BatchLink.batches g.B.BatchLink.streams (made_with g.E.EmptyRecords.record_at) k c.args.self.now c.self.view_is c.args.body.now l bodies answers rest h next in
    absurd (c.in-None.ensures asked.0 (subst (λ (n : ℕ). IsOfDevice i.device n asked.0) (sym c.record_len.ensures.value) asked.1) asked.2)
