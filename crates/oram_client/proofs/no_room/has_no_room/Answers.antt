use Rattle.std.proofs.Common.{◌≡◌, ◌≢◌, ◌⊎◌, ℕ, Bool, List, [], ◌∷◌, ◌++◌, take, MatchBool, inl, inr, sym, ◌∙◌, subst}
use Rattle.oram_wire.specs.HostMessages.{no_room_answer}
use Rattle.oram_link_laws.specs.Repair.{IsAmong}
use Rattle.oram_rounds.specs.Batches.{texts}
use Rattle.oram_rounds.proofs.Texts.{among_at, take_next}
use Rattle.oram_client.proofs.no_room.has_no_room.Goals as goal

-- a body among some and one more
among_last : (front : List (List ℕ)) (last x : List ℕ) → IsAmong x (front ++ last ∷ []) → IsAmong x front ⊎ (x ≡ last)
among_last [] last x (inl same) = inr same
among_last [] last x (inr none) = absurd none
among_last (b ∷ front) last x (inl same) = inl (inl same)
among_last (b ∷ front) last x (inr later) = elim (among_last front last x later) [ inl among ↦ inl (inr among) | inr same ↦ inr same ]

pub returns-then-is_no_room : goal.returns-then-is_no_room
returns-then-is_no_room c =
    let answers = c.args.answers.now in
    let given = c.deref.result.now in
    let is : given ≡ no_room_answer =
    subst (λ (b : Bool). MatchBool b (given ≡ no_room_answer) (given ≢ no_room_answer)) c.if-is_no_room.true c.is_no_room.ensures in
    subst (λ (x : List ℕ). IsAmong x (texts answers)) (sym c.deref.ensures.value ∙ is)
    (among_at answers c.loop-answer.answer-index c.answer-item.result c.loop-answer-test.true c.answer-item.is)

pub loop-answer-preserved : goal.loop-answer-preserved
loop-answer-preserved c =
    let answers = c.args.answers.now in
    let i = c.loop-answer.answer-index in
    let given = c.deref.result.now in
    let not : given ≢ no_room_answer =
    subst (λ (b : Bool). MatchBool b (given ≡ no_room_answer) (given ≢ no_room_answer)) c.if-is_no_room.false c.is_no_room.ensures in
    let next = take_next answers i c.answer-item.result c.loop-answer-test.true c.answer-item.is in
    λ among. elim (among_last (take i (texts answers)) c.answer-item.result.items no_room_answer (subst (IsAmong no_room_answer) next among)) [
      | inl before ↦ c.loop-answer.invariant before
      | inr here ↦ not (c.deref.ensures.value ∙ sym here)
    ]
