use Rattle.std.proofs.Common.{ℕ, List, inl, inr, refl, ap, subst}
use Rattle.std.specs.List.{AllByRecursion}
use Rattle.std.proofs.lemmas.Result.{err_from_is_err_and}
use Rattle.oram_rounds.specs.Batches.{texts}
use Rattle.oram_client.specs.Introduction.{HasOther, Suits}
use Rattle.oram_client.specs.declared.introduction.Wanted.TheVariants.{Made}
use Rattle.oram_client.proofs.Introduced.{one_turn}
use Rattle.oram_client.proofs.introduction.ask.Goals as goal

pub returns-in_err-made-clause-err : goal.returns-in_err-made-clause-err
returns-in_err-made-clause-err g c =
    let p = err_from_is_err_and c.from_residual.result c.from_residual.ensures.1 in
    let e = c.in_err-made.ensures.err in
    rw (p.1, p.2) (_, one_turn g.L.BatchLink.batches _ _ _ _ e.1 e.2, inl (e.0, refl, e.3))

pub returns-in_err-check_answers-clause-err : goal.returns-in_err-check_answers-clause-err
returns-in_err-check_answers-clause-err g c =
    let p = err_from_is_err_and c.from_residual-in_err-check_answers.result c.from_residual-in_err-check_answers.ensures.1 in
    let e = c.in_ok-made.ensures.ok in
    let other = subst (λ (x : List (List ℕ)). HasOther Made x c.in_err-check_answers.field-0.0) (ap texts c.deref.ensures.value) c.in_err-check_answers.ensures.err in
    rw (p.1, p.2) (_, one_turn g.L.BatchLink.batches _ _ _ _ e.0 e.1, inr (texts c.in_ok-made.made.items, c.in_ok-made.answer.items, refl, other))

pub returns-clause-ok : goal.returns-clause-ok
returns-clause-ok g c =
    let e = c.in_ok-made.ensures.ok in
    let made = subst (AllByRecursion (Suits Made)) (ap texts c.deref.ensures.value) c.in_ok-check_answers.ensures.ok in
    (_, one_turn g.L.BatchLink.batches _ _ _ _ e.0 e.1, (texts c.in_ok-made.made.items, made, refl))
