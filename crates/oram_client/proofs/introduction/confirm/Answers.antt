use Rattle.std.proofs.Common.{◌≡◌, ℕ, List, ◌∙◌, inl, inr, ap, subst}
use Rattle.std.proofs.lemmas.Result.{err_from_is_err_and}
use Rattle.oram_rounds.specs.Batches.{texts}
use Rattle.oram_client.specs.Introduction.{IsUnasked, identity_tree, shapes}
use Rattle.oram_client.proofs.introduction.confirm.Goals as goal

pub returns-in_err-answer-clause-err : goal.returns-in_err-answer-clause-err
returns-in_err-answer-clause-err g c =
    let p = err_from_is_err_and c.from_residual-in_err-answer.result c.from_residual-in_err-answer.ensures.1 in
    let e = c.in_err-answer.ensures.err in
    let fault = c.in_err-answer.field-0.0 in
    let makings : texts c.deref.result.now ≡ shapes c.args.device.now c.args.overhead = ap texts c.deref.ensures.value ∙ c.in_ok-makings.ensures in
    let unasked = subst (λ (m : List (List ℕ)). IsUnasked m (identity_tree c.args.identity.now.0).question e.0 fault) makings
    (subst (λ (q : List ℕ). IsUnasked (texts c.deref.result.now) q e.0 fault) c.in_ok-question.ensures e.2) in
    rw (p.1, p.2) (e.0, e.1, inr (inl unasked))
