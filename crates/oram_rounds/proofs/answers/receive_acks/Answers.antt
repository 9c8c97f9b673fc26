use Rattle.std.proofs.Common.{◌≡◌, ◌++◌, ◌∷◌, [], ◌+◌, ℕ, List, arith, length, drop, refl, sym, ap, ◌∙◌, subst, inr, append_assoc}
use Rattle.std.proofs.lemmas.List.{length-append}
use Rattle.oram_session.specs.Outcome.{Outcome, outcome_of}
use Rattle.oram_rounds.specs.Batches.{texts}
use Rattle.oram_rounds.specs.Streams.{GivesNext}
use Rattle.oram_rounds.proofs.Arriving.{next_store, one_ack}
use Rattle.oram_rounds.proofs.Texts.{drop_here}
use Rattle.oram_rounds.proofs.answers.receive_acks.Goals as goal

pub returns-in-Err : goal.returns-in-Err
returns-in-Err g c = λ l before given count begun.
    let all = texts c.args.stores.now in
    let x = c.store-item.result in
    let i = c.loop-store.store-index in
    let k = c.loop-store.invariant l before given count begun in
    let next = subst (λ (o : Outcome). GivesNext g.B.BatchLink.batches g.B.BatchLink.streams c.loop-store.inner x.items o c.next_answer.new.self) (ap outcome_of c.in-Err.is)
    (subst (λ (b : List ℕ). GivesNext g.B.BatchLink.batches g.B.BatchLink.streams c.loop-store.inner b (outcome_of c.next_answer.result) c.next_answer.new.self) c.deref.ensures.value c.next_answer.ensures) in
    let here : drop (length k.0) all ≡ x.items ∷ drop (i + 1) all = ap (λ (n : ℕ). drop n all) k.2 ∙ drop_here c.args.stores.now i x c.loop-store-test.true c.store-item.is in
    let lost = next l (before ++ all) (given ++ k.0) (drop (i + 1) all) k.1 (next_store before given k.0 all (drop (i + 1) all) x.items count here) in
    (k.0, inr (refl, c.in-Err.field-0, lost.0, lost.1, lost.2))

pub loop-store-preserved : goal.loop-store-preserved
loop-store-preserved g c = λ l before given count begun.
    let all = texts c.args.stores.now in
    let x = c.store-item.result in
    let i = c.loop-store.store-index in
    let answer = c.in-Ok.answer.items in
    let k = c.loop-store.invariant l before given count begun in
    let next = subst (λ (o : Outcome). GivesNext g.B.BatchLink.batches g.B.BatchLink.streams c.loop-store.inner x.items o c.next_answer.new.self) (ap outcome_of c.in-Ok.is)
    (subst (λ (b : List ℕ). GivesNext g.B.BatchLink.batches g.B.BatchLink.streams c.loop-store.inner b (outcome_of c.next_answer.result) c.next_answer.new.self) c.deref.ensures.value c.next_answer.ensures) in
    let here : drop (length k.0) all ≡ x.items ∷ drop (i + 1) all = ap (λ (n : ℕ). drop n all) k.2 ∙ drop_here c.args.stores.now i x c.loop-store-test.true c.store-item.is in
    let came = next l (before ++ all) (given ++ k.0) (drop (i + 1) all) k.1 (next_store before given k.0 all (drop (i + 1) all) x.items count here) in (
      k.0 ++ answer ∷ [],
      subst (λ (as' : List (List ℕ)). g.B.BatchLink.streams l (before ++ all) as' c.next_answer.new.self) (append_assoc given k.0 (answer ∷ [])) came,
      omega (arith, k.2, length-append k.0 (answer ∷ [])),
      one_ack k.0 answer c.loop-store.done c.is_done-done.result k.3 (λ yes. sym c.deref-in-Ok.ensures.value ∙ c.is_done-done.ensures.0 yes)
          (λ is. c.is_done-done.ensures.1 (c.deref-in-Ok.ensures.value ∙ is)),
    )
