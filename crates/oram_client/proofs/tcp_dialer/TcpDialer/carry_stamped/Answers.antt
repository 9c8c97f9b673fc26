use Rattle.std.proofs.Common.{◌≡◌, ℕ, List, ◌++◌, ap, ◌∙◌, subst}
use Rattle.std.specs.Prelude.{string_bytes}
use Rattle.oram_link_laws.specs.Runs.{Exchange}
use Rattle.oram_rounds.specs.Batches.{batch_outcome_of, texts}
use Rattle.oram_stamps.specs.Known.{next_stamp}
use Rattle.oram_stamps.specs.declared.stamp.Place.TheVariants.{Begun, Done}
use Rattle.oram_stamps.specs.declared.stamp.Stamp.{Stamp}
use Rattle.oram_client.specs.Attempts.{attempt_of}
use Rattle.oram_client.specs.Dialer.{Destination}
use Rattle.oram_client.specs.StampMessages.{stamp_put}
use Rattle.oram_client.specs.Stamped.{CarriesStamped}
use Rattle.oram_client.specs.StreamBatches.{StreamBatch}
use Rattle.oram_client.proofs.Between.{around, carried_so}
use Rattle.oram_client.proofs.tcp_dialer.TcpDialer.carry_stamped.Goals as goal

pub returns : goal.returns
returns g c =
    let inside = c.self.inside in
    let d : Destination = record { address = string_bytes inside.address; identity = inside.identity; key = inside.key.0; known = inside.known; disk = inside.lengths } in
    let e = c.learn_outcome.new.self in
    let came = attempt_of c.learn_outcome.result in
    let first = texts c.args.first.now in
    let last = texts c.args.last.now in
    let called = c.call_between-outcome.ensures in
    let stamp_is = c.next_stamp-stamp.ensures in
    let begun_is : c.in_ok-begun.begun.items ≡ stamp_put d.key Begun (next_stamp d.known) = c.in_ok-begun.ensures ∙ ap (λ (s : Stamp). stamp_put inside.key.0 Begun s) stamp_is in
    let done_is : c.in_ok-done.done.items ≡ stamp_put d.key Done (next_stamp d.known) = c.in_ok-done.ensures ∙ ap (λ (s : Stamp). stamp_put inside.key.0 Done s) stamp_is in
    let batch = subst (λ (bodies : List (List ℕ)). StreamBatch g.S.Read.remaining g.S.Write.contents c.args.line.now bodies (batch_outcome_of c.call_between-outcome.result) called.0 c.call_between-outcome.new.self)
    (around c.in_ok-begun.begun.items c.in_ok-done.done.items first last) called.1 in
    subst (λ (x : Destination). (exchanges : List Exchange) × CarriesStamped g.S.Read.remaining g.S.Write.contents x c.args.line.now (first ++ last) came exchanges e c.call_between-outcome.new.self) c.self.view_is
    (carried_so g.S.Read.remaining g.S.Write.contents d e c.send.new.self c.args.line.now c.call_between-outcome.new.self (first ++ last) c.in_ok-begun.begun.items c.in_ok-done.done.items
    (batch_outcome_of c.call_between-outcome.result) came called.0 begun_is done_is c.in_ok-send.ensures.ok batch c.learn_outcome.ensures)
