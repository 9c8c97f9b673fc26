use Rattle.std.proofs.Common.{◌≡◌, ℕ, Bool, List, ◌∷◌, [], ◌++◌, MatchBool, inl, inr, refl, sym, ap, subst}
use Rattle.std.proofs.lemmas.Result.{err_from_is_err_and}
use Rattle.oram_wire.specs.HostMessages.{payload_answer}
use Rattle.oram_rounds.specs.Batches.{texts}
use Rattle.oram_client.specs.Introduction.{OwnTree, AreDone, AreUndone, IsAsked, IsOwned, IsUnowned, ShowsOther, has_no_record}
use Rattle.oram_client.proofs.Introduced.{more_turns}
use Rattle.oram_client.proofs.introduction.own.Goals as goal

pub returns-in_err-has_records-clause-err : goal.returns-in_err-has_records-clause-err
returns-in_err-has_records-clause-err g c =
    let p = err_from_is_err_and c.from_residual-in_err-has_records.result c.from_residual-in_err-has_records.ensures.1 in
    let asked = c.in_ok-answer.ensures.ok in
    let answer = c.in_ok-answer.answer.items in
    let other = c.args.other in
    let fault = c.in_err-has_records.field-0.0 in
    let shows = subst (λ (kept : List ℕ). ShowsOther kept other answer fault) c.deref-2.ensures.value
    (subst (λ (a : List ℕ). ShowsOther c.deref-2.result.now other a fault) c.deref.ensures.value c.in_err-has_records.ensures.err) in
    rw (p.1, p.2) (asked.0, asked.1, subst (λ (t : OwnTree). IsUnowned t other asked.0 fault) c.tree.view_is (inr (inr (inl (answer, asked.2, shows)))))

pub returns-in_err-put-clause-err : goal.returns-in_err-put-clause-err
returns-in_err-put-clause-err g c =
    let p = err_from_is_err_and c.from_residual-in_err-put.result c.from_residual-in_err-put.ensures.1 in
    let asked = c.in_ok-answer.ensures.ok in
    let put = c.in_err-put.ensures.err in
    let answer = c.in_ok-answer.answer.items in
    let inside = c.tree.inside in
    let other = c.args.other in
    let fault = c.in_err-put.field-0.0 in
    let none : c.deref.result.now ≡ has_no_record =
    subst (λ (b : Bool). MatchBool b (c.deref.result.now ≡ payload_answer c.deref-2.result.now) (c.deref.result.now ≡ has_no_record)) c.if-branch.false c.in_ok-has_records.ensures.ok in
    let there = subst (λ (a : List ℕ). IsAsked (inside.shape.items ∷ []) inside.question.items a asked.0) none
    (subst (λ (a : List ℕ). IsAsked (inside.shape.items ∷ []) inside.question.items a asked.0) (sym c.deref.ensures.value) asked.2) in
    let undone = subst (λ (b : List (List ℕ)). AreUndone b put.0 fault) (ap texts c.deref-3.ensures.value) put.2 in
    rw (p.1, p.2) (
      asked.0 ++ put.0,
      more_turns g.L.BatchLink.batches _ _ _ _ _ asked.1 put.1,
      subst (λ (t : OwnTree). IsUnowned t other (asked.0 ++ put.0) fault) c.tree.view_is (inr (inr (inr (asked.0, put.0, there, undone, refl)))),
    )

pub returns-clause-ok : goal.returns-clause-ok
returns-clause-ok g c =
    let asked = c.in_ok-answer.ensures.ok in
    let put = c.in_ok-put.ensures.ok in
    let inside = c.tree.inside in
    let none : c.deref.result.now ≡ has_no_record =
    subst (λ (b : Bool). MatchBool b (c.deref.result.now ≡ payload_answer c.deref-2.result.now) (c.deref.result.now ≡ has_no_record)) c.if-branch.false c.in_ok-has_records.ensures.ok in
    let there = subst (λ (a : List ℕ). IsAsked (inside.shape.items ∷ []) inside.question.items a asked.0) none
    (subst (λ (a : List ℕ). IsAsked (inside.shape.items ∷ []) inside.question.items a asked.0) (sym c.deref.ensures.value) asked.2) in
    let done = subst (λ (b : List (List ℕ)). AreDone b put.0) (ap texts c.deref-3.ensures.value) put.2 in (
      asked.0 ++ put.0,
      more_turns g.L.BatchLink.batches _ _ _ _ _ asked.1 put.1,
      subst (λ (t : OwnTree). IsOwned t (asked.0 ++ put.0)) c.tree.view_is (inr (asked.0, put.0, there, done, refl)),
    )
