use Rattle.std.proofs.Common.{◌≡◌, ◌+◌, ◌<◌, ◌++◌, ◌∷◌, [], ℕ, List, Some, Err, length, false, refl, ap, ◌∙◌, subst, arith, length-append}
use Rattle.std.specs.Prelude.{string_bytes}
use Rattle.std.specs.Global.{Vec}
use Rattle.std.proofs.lemmas.List.{length-map}
use Rattle.oram_link_laws.specs.Runs.{Exchange}
use Rattle.oram_rounds.specs.Batches.{texts}
use Rattle.oram_stamps.specs.Known.{next_stamp}
use Rattle.oram_stamps.specs.declared.stamp.Place.TheVariants.{Begun, Done}
use Rattle.oram_stamps.specs.declared.stamp.Stamp.{Stamp}
use Rattle.oram_client.specs.Dialer.{Destination}
use Rattle.oram_client.specs.StampMessages.{stamp_put}
use Rattle.oram_client.specs.Stamped.{CarriesStamped, between, with_known}
use Rattle.oram_client.specs.StampedStreams.{StreamsStamped}
use Rattle.oram_client.specs.StreamBatches.{StreamBatch, Streams}
use Rattle.oram_client.specs.declared.awaited.Progress.{Progress}
use Rattle.oram_client.specs.declared.dialer.Trouble.TheVariants.{OutOfReach}
use Rattle.oram_client.proofs.Between.{around, carried_so}
use Rattle.oram_client.proofs.StampedStreams.{begins_between}
use Rattle.oram_client.proofs.tcp_dialer.TcpDialer.begin_stamped.Goals as goal

-- the messages of all four lists, if the first list and the last one have a stamp's message each
four : (before behind : List (Vec ℕ)) (begun done : Vec ℕ) (first last : List (List ℕ)) → before ≡ begun ∷ [] → behind ≡ done ∷ []
    → (texts before ++ first) ++ (last ++ texts behind) ≡ between begun.items (first ++ last) done.items
four before behind begun done first last one other =
    (λ i. (texts (one i) ++ first) ++ (last ++ texts (other i))) ∙ around begun.items done.items first last

pub returns-in-Err : goal.returns-in-Err
returns-in-Err g c =
    let inside = c.self.inside in
    let d : Destination = record { address = string_bytes inside.address; identity = inside.identity; key = inside.key.0; known = inside.known; disk = inside.lengths } in
    let e = with_known d c.send.new.self in
    let first = texts c.args.first.now in
    let last = texts c.args.last.now in
    let failed = c.in-Err.ensures.err in
    let stamp_is = c.next_stamp-next.ensures in
    let begun_is : c.in_ok-begun.begun.items ≡ stamp_put d.key Begun (next_stamp d.known) = c.in_ok-begun.ensures ∙ ap (λ (s : Stamp). stamp_put inside.key.0 Begun s) stamp_is in
    let done_is : c.in_ok-done.done.items ≡ stamp_put d.key Done (next_stamp d.known) = c.in_ok-done.ensures ∙ ap (λ (s : Stamp). stamp_put inside.key.0 Done s) stamp_is in
    let batch = subst (λ (bodies : List (List ℕ)). StreamBatch g.S.Read.remaining g.S.Write.contents c.args.line.now bodies (Err c.in-Err.fault) failed.0 c.begin_between.new.self)
    (four c.from_ref-before.result.now c.from_ref-behind.result.now c.in_ok-begun.begun c.in_ok-done.done first last c.from_ref-before.ensures.value c.from_ref-behind.ensures.value) failed.1 in
    subst (λ (x : Destination). (exchanges : List Exchange) × CarriesStamped g.S.Read.remaining g.S.Write.contents x c.args.line.now (first ++ last) (Err (OutOfReach c.in-Err.fault)) exchanges e c.begin_between.new.self)
    c.self.view_is
    (carried_so g.S.Read.remaining g.S.Write.contents d e c.send.new.self c.args.line.now c.begin_between.new.self (first ++ last) c.in_ok-begun.begun.items c.in_ok-done.done.items
    (Err c.in-Err.fault) (Err (OutOfReach c.in-Err.fault)) failed.0 begun_is done_is c.in_ok-send.ensures.ok batch (refl, refl))

pub returns : goal.returns
returns g c =
    let inside = c.self.inside in
    let d : Destination = record { address = string_bytes inside.address; identity = inside.identity; key = inside.key.0; known = inside.known; disk = inside.lengths } in
    let e = with_known d c.send.new.self in
    let first = texts c.args.first.now in
    let last = texts c.args.last.now in
    let stamp_is = c.next_stamp-next.ensures in
    let begun_is : c.in_ok-begun.begun.items ≡ stamp_put d.key Begun (next_stamp d.known) = c.in_ok-begun.ensures ∙ ap (λ (s : Stamp). stamp_put inside.key.0 Begun s) stamp_is in
    let done_is : c.in_ok-done.done.items ≡ stamp_put d.key Done (next_stamp d.known) = c.in_ok-done.ensures ∙ ap (λ (s : Stamp). stamp_put inside.key.0 Done s) stamp_is in
    let read = subst (λ (bodies : List (List ℕ)). Streams g.S.Read.remaining g.S.Write.contents c.args.line.now bodies [] c.begin_between.new.self)
    (four c.from_ref-before.result.now c.from_ref-behind.result.now c.in_ok-begun.begun c.in_ok-done.done first last c.from_ref-before.ensures.value c.from_ref-behind.ensures.value)
    c.in_default.ensures.ok in
    let progress : Progress = record { left = length c.args.first.now + length c.args.last.now; no_room = false; begun = Some c.in_ok-begun.begun; done = Some c.in_ok-done.done } in
    let left : progress.left ≡ length (first ++ last) =
    omega (arith, length-append first last, length-map c.args.first.now (λ (v : Vec ℕ). v.items), length-map c.args.last.now (λ (v : Vec ℕ). v.items)) in
    let more : 0 < length (first ++ last) = omega (arith, left, c.requires) in
    subst (λ (x : Destination). StreamsStamped g.S.Read.remaining g.S.Write.contents x c.args.line.now (first ++ last) [] progress e c.begin_between.new.self) c.self.view_is
    (begins_between g.S.Read.remaining g.S.Write.contents d e c.send.new.self c.args.line.now c.begin_between.new.self (first ++ last) c.in_ok-begun.begun c.in_ok-done.done progress
    c.in_ok-send.ensures.ok begun_is done_is left more refl refl refl read refl)
