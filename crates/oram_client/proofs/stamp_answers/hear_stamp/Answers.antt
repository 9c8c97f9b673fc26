use Rattle.std.proofs.Common.{◌≡◌, ℕ, List, Result, Ok, Err, MatchResult, refl, sym, ◌∙◌, subst}
use Rattle.std.specs.Prelude.{IfErr, OnOk}
use Rattle.oram_wire.specs.HostMessages.{done_answer}
use Rattle.oram_client.specs.Stamped.{IsPutFor}
use Rattle.oram_client.specs.declared.dialer.Trouble.{Trouble}
use Rattle.oram_client.proofs.stamp_answers.hear_stamp.Goals as goal

-- what both clauses say together
both : {A : Type 0} (r : Result A Trouble) (put answer : List ℕ) → put ≡ answer → OnOk r (put ≡ done_answer) → IfErr r (λ trouble. IsPutFor put trouble)
    → MatchResult r (λ u. answer ≡ done_answer) (λ trouble. IsPutFor answer trouble)
both (Ok u) put answer same ok err = sym same ∙ ok
both (Err trouble) put answer same ok err = subst (λ (x : List ℕ). IsPutFor x trouble) same err

pub returns-in-Ok : goal.returns-in-Ok
returns-in-Ok g c =
    (Ok c.in-Ok.answer.items, c.in-Ok.ensures, both c.is_put.result c.deref.result.now c.in-Ok.answer.items c.deref.ensures.value c.is_put.ensures.ok c.is_put.ensures.err)

pub returns-in-Err : goal.returns-in-Err
returns-in-Err g c = (Err c.in-Err.fault, c.in-Err.ensures, refl)
