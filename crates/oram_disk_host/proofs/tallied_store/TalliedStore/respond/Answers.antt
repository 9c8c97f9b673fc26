use Rattle.std.proofs.Common.{◌≡◌, ℕ, List, ap, sym, subst, take, ◌∙◌}
use Rattle.oram_wire.specs.HostMessages.{answer_body}
use Rattle.oram_wire.specs.ListOfBodies.{bodies_in}
use Rattle.oram_wire.specs.declared.host_messages.HostAnswer.{HostAnswer}
use Rattle.oram_disk_host.specs.Hosts.{HostedValue, is_lost}
use Rattle.oram_disk_host.specs.Tallies.{Counts}
use Rattle.oram_disk_host.proofs.Groups.{front_is, served_by}
use Rattle.oram_disk_host.proofs.tallied_store.TalliedStore.respond.Goals as goal

pub returns-clause-ok : goal.returns-clause-ok
returns-clause-ok g c =
    let call = c.in_ok-count.ensures in
    let answer : HostAnswer = call.ok.0 in
    let bytes : c.in_ok-count.answer.items ≡ answer_body answer = call.ok.2 in
    let answered : c.deref.result.now ≡ answer_body answer = c.deref.ensures.value ∙ bytes in
    let counted : c.deref-2.result.now ≡ answer_body answer = c.deref-2.ensures.value ∙ bytes in
    let counts : Counts c.self.inside.tally (take c.in_ok-count.count (bodies_in c.args.bodies.now)) (answer_body answer) c.with_each-self-inside.result =
    subst (λ (a : List ℕ). Counts c.self.inside.tally (take c.in_ok-count.count (bodies_in c.args.bodies.now)) a c.with_each-self-inside.result) counted
    (subst (λ (bs : List (List ℕ)). Counts c.self.inside.tally bs c.deref-2.result.now c.with_each-self-inside.result) (front_is c.args.bodies.now c.in_ok-count.count) c.with_each-self-inside.ensures.counts) in (
      answer,
      call.ok.1,
      bytes,
      served_by g.F.FilePair.model _ _ _ _ _ c.self.view_is (record {
        counts = record { messages = counts.messages; received = counts.received; sent = counts.sent };
        answers = call.ok.3;
        runs = call.runs;
        is_open = ap (λ (v : HostedValue g.row.F.Denot). is_lost v.tally.failure) c.self.view_is ∙ sym c.has_failed.ensures ∙ c.if-has_failed.false;
        full = λ is. c.failure-failure.ensures.full (answered ∙ is);
        spare = λ isnt. c.failure-failure.ensures.spare (λ same. isnt (sym answered ∙ same));
      }),
    )
