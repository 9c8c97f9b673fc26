use Rattle.std.proofs.Common.{ℕ, ◌+◌, List, take, drop, Ok, Err, sym, subst, arith}
use Rattle.std.proofs.lemmas.List.{length-map, take_all}
use Rattle.std.specs.Global.{Vec}
use Rattle.std.proofs.lemmas.Result.{err_from_is_err_and}
use Rattle.oram_session.specs.Outcome.{Outcome}
use Rattle.oram_rounds.specs.Batches.{texts}
use Rattle.oram_rounds.specs.Streams.{GivesNext}
use Rattle.oram_rounds.proofs.Texts.{split_here, take_next}
use Rattle.oram_near.specs.NearStreams.{Hears, bytes_of}
use Rattle.oram_near.proofs.HeardAnswers.{hears_fault, hears_more}
use Rattle.oram_near.proofs.hearing.hear.Goals as goal

pub returns-in_err-answer : goal.returns-in_err-answer
returns-in_err-answer g c =
    let p = err_from_is_err_and c.from_residual.result c.from_residual.ensures.1 in
    let all = texts c.args.messages.now in
    let i = c.loop-message.message-index in
    let x = c.message-item.result in
    let o : Outcome = Err c.in_err-answer.field-0.0 in
    let gives = subst (λ (b : List ℕ). GivesNext g.B.BatchLink.batches g.B.BatchLink.streams c.loop-message.link b o c.next_answer.new.self) c.deref.ensures.value c.in_err-answer.ensures in
    let heard : Hears g.B.BatchLink.batches g.B.BatchLink.streams c.args.link.now all (Err c.in_err-answer.field-0.0) c.next_answer.new.self =
    subst (λ (bodies : List (List ℕ)). Hears g.B.BatchLink.batches g.B.BatchLink.streams c.args.link.now bodies (Err c.in_err-answer.field-0.0) c.next_answer.new.self)
    (split_here c.args.messages.now i x c.loop-message-test.true c.message-item.is)
    (hears_fault g.B.BatchLink.batches g.B.BatchLink.streams c.args.link.now c.loop-message.link c.next_answer.new.self (take i all) (drop (i + 1) all) x.items (bytes_of c.loop-message.refusal) c.in_err-answer.field-0.0
    c.loop-message.invariant gives) in
    rw (p.1, p.2) heard

pub loop-message-preserved : goal.loop-message-preserved
loop-message-preserved g c =
    let all = texts c.args.messages.now in
    let i = c.loop-message.message-index in
    let x = c.message-item.result in
    let o : Outcome = Ok c.in_ok-answer.answer.items in
    let gives = subst (λ (b : List ℕ). GivesNext g.B.BatchLink.batches g.B.BatchLink.streams c.loop-message.link b o c.next_answer.new.self) c.deref.ensures.value c.in_ok-answer.ensures in
    subst (λ (front : List (List ℕ)). Hears g.B.BatchLink.batches g.B.BatchLink.streams c.args.link.now front (Ok (bytes_of c.first_refusal-refusal.result)) c.next_answer.new.self)
    (sym (take_next c.args.messages.now i x c.loop-message-test.true c.message-item.is))
    (hears_more g.B.BatchLink.batches g.B.BatchLink.streams c.args.link.now c.loop-message.link c.next_answer.new.self (take i all) x.items c.in_ok-answer.answer.items (bytes_of c.loop-message.refusal)
    (bytes_of c.first_refusal-refusal.result) c.loop-message.invariant gives c.first_refusal-refusal.ensures)

pub returns : goal.returns
returns g c =
    let all = texts c.args.messages.now in
    subst (λ (front : List (List ℕ)). Hears g.B.BatchLink.batches g.B.BatchLink.streams c.args.link.now front (Ok (bytes_of c.loop-message.refusal)) c.loop-message.link)
    (take_all c.loop-message.message-index all (omega (arith, c.loop-message-test.false, length-map c.args.messages.now (λ (v : Vec ℕ). v.items)))) c.loop-message.invariant
