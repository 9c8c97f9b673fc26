use Rattle.std.proofs.Common.{◌≡◌, Option, Some, subst}
use Rattle.std.specs.Prelude.{IfSome}
use Rattle.oram_store.proofs.laws.first_group.Goals as goal

of_some : {T : Type 0} (found : Option T) (x : T) (P : T → Type 0) → found ≡ Some x → IfSome found P → P x
of_some {T} found x P is holds = subst (λ (o : Option T). IfSome o P) is holds

pub returns-clause-run : goal.returns-clause-run
returns-clause-run g c honest =
    let was_honest = c.are_done_together.ensures.runs.after.honest honest in
    let sound = of_some c.in_ok-store.field-0 c.in-Some.store _ c.in-Some.is c.in_ok-store.ensures.sound in
    (c.in-Some.store, c.in_ok-are_done_together.ensures.run c.if-not-branch.false honest (sound was_honest))

pub returns-clause-found : goal.returns-clause-found
returns-clause-found g c honest left now =
    let was_honest = c.are_done_together.ensures.runs.after.honest honest in
    let sound = of_some c.in_ok-store.field-0 c.in-Some.store _ c.in-Some.is c.in_ok-store.ensures.sound in
    let blank = of_some c.in_ok-store.field-0 c.in-Some.store _ c.in-Some.is c.in_ok-store.ensures.blank in
    c.in_ok-are_done_together.ensures.found c.if-not-branch.false honest (sound was_honest) (blank was_honest) left now
