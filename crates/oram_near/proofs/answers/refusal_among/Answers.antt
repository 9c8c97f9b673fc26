use Rattle.std.proofs.Common.{◌≡◌, ℕ, List, false, true, sym, ◌∙◌, subst}
use Rattle.oram_wire.specs.HostMessages.{done_answer}
use Rattle.oram_link_laws.specs.Repair.{IsAmong}
use Rattle.oram_rounds.specs.Batches.{texts}
use Rattle.oram_rounds.proofs.Texts.{all_next, among_at}
use Rattle.oram_near.proofs.answers.refusal_among.Goals as goal

pub returns-then-not-is_done : goal.returns-then-not-is_done
returns-then-not-is_done c =
    let is = c.deref-then-not-is_done.ensures.value in (
      subst (λ (b : List ℕ). IsAmong b (texts c.args.answers.now)) (sym is)
          (among_at c.args.answers.now c.loop-answer.answer-index c.answer-item.result c.loop-answer-test.true c.answer-item.is),
      λ e. let yes = c.is_done.ensures.1 (c.deref.ensures.value ∙ sym is ∙ e) in
          let no : false ≡ true = sym c.if-not-is_done.true ∙ yes in cc,
    )

pub loop-answer-preserved : goal.loop-answer-preserved
loop-answer-preserved c =
    all_next (λ answer. answer ≡ done_answer) c.args.answers.now c.loop-answer.answer-index c.answer-item.result c.loop-answer-test.true c.answer-item.is c.loop-answer.invariant
    (sym c.deref.ensures.value ∙ c.is_done.ensures.0 c.if-not-is_done.false)
