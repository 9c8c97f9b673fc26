use Rattle.std.proofs.Common.{◌≡◌, sym, ◌∙◌, arith}
use Rattle.oram_wire.specs.HostMessages.{done_answer}
use Rattle.oram_rounds.proofs.Texts.{all_at, all_next, all_whole}
use Rattle.oram_rounds.proofs.answers.are_done.Goals as goal

pub returns-then-not-is_done : goal.returns-then-not-is_done
returns-then-not-is_done c = (
  λ e. absurd cc,
  λ are.
      let one = all_at (λ a. a ≡ done_answer) c.args.answers.now c.loop-answer.answer-index c.answer-item.result c.loop-answer-test.true c.answer-item.is are in
      absurd (let both = sym c.if-not-is_done.true ∙ c.is_done.ensures.1 (c.deref.ensures.value ∙ one) in cc),
)

pub loop-answer-preserved : goal.loop-answer-preserved
loop-answer-preserved c =
    all_next (λ a. a ≡ done_answer) c.args.answers.now c.loop-answer.answer-index c.answer-item.result c.loop-answer-test.true c.answer-item.is c.loop-answer.invariant
    (sym c.deref.ensures.value ∙ c.is_done.ensures.0 c.if-not-is_done.false)

pub returns : goal.returns
returns c = (
  λ e. all_whole (λ a. a ≡ done_answer) c.args.answers.now c.loop-answer.answer-index (omega (arith, c.loop-answer-test.false)) c.loop-answer.invariant,
  λ are. cc,
)
