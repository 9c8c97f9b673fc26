use Rattle.std.proofs.Common.{◌≡◌, ◌++◌, ◌∷◌, [], List, ℕ, ◌+◌, length, take, drop, sym, ap, ◌∙◌, subst, Ok, Err, length-append}
use Rattle.oram_link_laws.specs.Runs.{LinkRun}
use Rattle.oram_session.specs.Outcome.{Outcome}
use Rattle.oram_rounds.specs.Batches.{answered, texts}
use Rattle.oram_rounds.proofs.Texts.{split_here, take_next, texts_by}
use Rattle.oram_rounds.proofs.Tries.{HasTried, on_err, one_last, one_more}
use Rattle.oram_rounds.proofs.one_by_one.call_each.Goals as goal

pub returns-in_err-answer-clause-err : goal.returns-in_err-answer-clause-err
returns-in_err-answer-clause-err g c =
    let calls = g.L.Link.calls in
    let all = texts c.args.bodies.now in
    let i = c.loop-body.body-index in
    let x = c.body-item.result in
    let o : Outcome = Err c.in_err-answer.field-0.0 in
    let call = subst (λ (b : List ℕ). calls c.loop-body.link b o c.call.new.self) c.deref.ensures.value c.in_err-answer.ensures in
    on_err c.from_residual-in_err-answer.result
    (subst (λ (bodies : List (List ℕ)). HasTried calls bodies c.args.link.now c.call.new.self) (split_here c.args.bodies.now i x c.loop-body-test.true c.body-item.is)
    (one_last calls (take i all) (drop (i + 1) all) (texts c.loop-body.answers.items) c.args.link.now c.loop-body.link c.call.new.self x.items o c.loop-body.invariant.ran call))

pub returns-in_err-push-clause-err : goal.returns-in_err-push-clause-err
returns-in_err-push-clause-err g c =
    let calls = g.L.Link.calls in
    let all = texts c.args.bodies.now in
    let i = c.loop-body.body-index in
    let x = c.body-item.result in
    let o : Outcome = Ok c.in_ok-answer.answer.items in
    let call = subst (λ (b : List ℕ). calls c.loop-body.link b o c.call.new.self) c.deref.ensures.value c.in_ok-answer.ensures in
    on_err c.from_residual-in_err-push.result
    (subst (λ (bodies : List (List ℕ)). HasTried calls bodies c.args.link.now c.call.new.self) (split_here c.args.bodies.now i x c.loop-body-test.true c.body-item.is)
    (one_last calls (take i all) (drop (i + 1) all) (texts c.loop-body.answers.items) c.args.link.now c.loop-body.link c.call.new.self x.items o c.loop-body.invariant.ran call))

pub loop-body-preserved : goal.loop-body-preserved
loop-body-preserved g c =
    let calls = g.L.Link.calls in
    let all = texts c.args.bodies.now in
    let i = c.loop-body.body-index in
    let x = c.body-item.result in
    let o : Outcome = Ok c.in_ok-answer.answer.items in
    let call = subst (λ (b : List ℕ). calls c.loop-body.link b o c.call.new.self) c.deref.ensures.value c.in_ok-answer.ensures in
    let next = take_next c.args.bodies.now i x c.loop-body-test.true c.body-item.is in
    let more = texts_by c.push.new.bodies.items c.loop-body.answers.items c.in_ok-answer.answer c.in_ok-push.ensures.ok in
    let count : length (texts c.loop-body.answers.items) ≡ length (take i all) = c.loop-body.invariant.count in
    record {
      count = ap length more ∙ length-append (texts c.loop-body.answers.items) (c.in_ok-answer.answer.items ∷ [])
          ∙ ap (λ (k : ℕ). k + 1) count ∙ sym (ap length next ∙ length-append (take i all) (x.items ∷ []));
      ran = subst (λ (given : List (List ℕ)). LinkRun calls c.args.link.now (answered (take (i + 1) all) given) c.call.new.self) (sym more)
          (subst (λ (bs : List (List ℕ)). LinkRun calls c.args.link.now (answered bs (texts c.loop-body.answers.items ++ c.in_ok-answer.answer.items ∷ [])) c.call.new.self) (sym next)
          (one_more calls (take i all) (texts c.loop-body.answers.items) c.args.link.now c.loop-body.link c.call.new.self x.items c.in_ok-answer.answer.items count c.loop-body.invariant.ran call));
    }
