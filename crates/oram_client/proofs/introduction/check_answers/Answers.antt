use Rattle.std.proofs.Common.{ℕ, Bool, List, MatchBool, subst}
use Rattle.oram_rounds.proofs.Texts.{all_next, among_at}
use Rattle.oram_client.specs.Introduction.{Says, Suits}
use Rattle.oram_client.proofs.introduction.check_answers.Goals as goal

pub returns-then-not-suits-clause-err : goal.returns-then-not-suits-clause-err
returns-then-not-suits-clause-err c =
    let answers = c.args.answers.now in
    let given = c.answer-item.result in
    let unwanted : ¬ Suits c.args.wanted c.deref.result.now =
    subst (λ (b : Bool). MatchBool b (Suits c.args.wanted c.deref.result.now) (¬ Suits c.args.wanted c.deref.result.now)) c.if-not-suits.true c.suits.ensures in (
      given.items,
      among_at answers c.loop-answer.answer-index given c.loop-answer-test.true c.answer-item.is,
      subst (λ (x : List ℕ). ¬ Suits c.args.wanted x) c.deref.ensures.value unwanted,
      subst (λ (x : List ℕ). Says x c.said.result) c.deref-then-not-suits.ensures.value c.said.ensures,
    )

pub loop-answer-preserved : goal.loop-answer-preserved
loop-answer-preserved c =
    let wanted : Suits c.args.wanted c.deref.result.now =
    subst (λ (b : Bool). MatchBool b (Suits c.args.wanted c.deref.result.now) (¬ Suits c.args.wanted c.deref.result.now)) c.if-not-suits.false c.suits.ensures in
    all_next (Suits c.args.wanted) c.args.answers.now c.loop-answer.answer-index c.answer-item.result c.loop-answer-test.true c.answer-item.is c.loop-answer.invariant
    (subst (Suits c.args.wanted) c.deref.ensures.value wanted)
