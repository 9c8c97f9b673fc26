use Rattle.std.proofs.Common.{◌≡◌, ◌++◌, ◌∷◌, [], ◌+◌, ℕ, List, Ok, take, inl, inr, sym, subst, ap, ◌∙◌, arith}
use Rattle.std.specs.Global.{Vec}
use Rattle.std.proofs.lemmas.List.{length-map, take_all}
use Rattle.std.proofs.lemmas.Result.{err_from_is_err_and}
use Rattle.oram_rounds.specs.Batches.{texts}
use Rattle.oram_rounds.proofs.Texts.{split_here, take_next}
use Rattle.oram_client.specs.AnswerLengths.{longest_answer}
use Rattle.oram_client.specs.StreamBatches.{AreAdded, ReceivesWithin}
use Rattle.oram_client.proofs.Received.{added_none, added_one, stops_here}
use Rattle.oram_client.proofs.stream_batches.receive_each.Goals as goal

pub loop-body-init : goal.loop-body-init
loop-body-init g c = record { added = added_none (longest_answer c.args.lengths.now) (g.R.Read.remaining c.args.reader.now) (texts c.args.answers.now.items) }

pub returns-in_err-answer-clause-err : goal.returns-in_err-answer-clause-err
returns-in_err-answer-clause-err g c =
    let p = err_from_is_err_and c.from_residual.result c.from_residual.ensures.1 in
    let longest = longest_answer c.args.lengths.now in
    let i = c.loop-body.body-index in
    let is : c.longest.result ≡ longest c.body-item.result.items = c.longest.ensures.value ∙ ap longest c.deref.ensures.value in
    rw (p.1, p.2)
    (stops_here longest (g.R.Read.remaining c.args.reader.now) (g.R.Read.remaining c.loop-body.reader) (g.R.Read.remaining c.receive.new.reader) (texts c.args.bodies.now)
    (texts c.args.answers.now.items) (texts c.loop-body.answers.items) i c.longest.result c.body-item.result.items c.in_err-answer.field-0.0
    (split_here c.args.bodies.now i c.body-item.result c.loop-body-test.true c.body-item.is) c.loop-body.invariant.added is (inl c.in_err-answer.ensures))

pub returns-in_err-push-clause-err : goal.returns-in_err-push-clause-err
returns-in_err-push-clause-err g c =
    let p = err_from_is_err_and c.from_residual-in_err-push.result c.from_residual-in_err-push.ensures.1 in
    let longest = longest_answer c.args.lengths.now in
    let i = c.loop-body.body-index in
    let is : c.longest.result ≡ longest c.body-item.result.items = c.longest.ensures.value ∙ ap longest c.deref.ensures.value in
    rw (p.1, p.2)
    (stops_here longest (g.R.Read.remaining c.args.reader.now) (g.R.Read.remaining c.loop-body.reader) (g.R.Read.remaining c.receive.new.reader) (texts c.args.bodies.now)
    (texts c.args.answers.now.items) (texts c.loop-body.answers.items) i c.longest.result c.body-item.result.items c.in_err-push.field-0.0
    (split_here c.args.bodies.now i c.body-item.result c.loop-body-test.true c.body-item.is) c.loop-body.invariant.added is
    (inr (c.in_err-push.ensures.err, c.in_ok-answer.answer.items, c.in_ok-answer.ensures)))

pub loop-body-preserved : goal.loop-body-preserved
loop-body-preserved g c =
    let longest = longest_answer c.args.lengths.now in
    let i = c.loop-body.body-index in
    let is : c.longest.result ≡ longest c.body-item.result.items = c.longest.ensures.value ∙ ap longest c.deref.ensures.value in
    let y = g.R.Read.remaining c.loop-body.reader in
    let z = g.R.Read.remaining c.receive.new.reader in
    let read : ReceivesWithin (longest c.body-item.result.items) y z (Ok c.in_ok-answer.answer.items) = subst (λ (n : ℕ). ReceivesWithin n y z (Ok c.in_ok-answer.answer.items)) is c.in_ok-answer.ensures in
    record {
      added = added_one longest (g.R.Read.remaining c.args.reader.now) y z (take i (texts c.args.bodies.now)) (take (i + 1) (texts c.args.bodies.now)) (texts c.args.answers.now.items)
          (texts c.loop-body.answers.items) (texts c.push.new.answers.items) c.body-item.result.items c.in_ok-answer.answer.items
          (take_next c.args.bodies.now i c.body-item.result c.loop-body-test.true c.body-item.is) c.loop-body.invariant.added read c.in_ok-push.ensures.ok;
    }

pub returns-clause-ok : goal.returns-clause-ok
returns-clause-ok g c =
    let all = take_all c.loop-body.body-index (texts c.args.bodies.now) (omega (arith, length-map c.args.bodies.now (λ (v : Vec ℕ). v.items))) in
    subst (λ (l : List (List ℕ)). AreAdded (longest_answer c.args.lengths.now) (g.R.Read.remaining c.args.reader.now) (g.R.Read.remaining c.loop-body.reader) l (texts c.args.answers.now.items) (texts c.loop-body.answers.items))
    all c.loop-body.invariant.added
