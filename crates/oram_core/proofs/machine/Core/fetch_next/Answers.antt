use Rattle.std.proofs.Common.{◌≡◌, ◌+◌, ◌*◌, ◌%◌, ◌<◌, ◌∷◌, List, sym, subst, arith, ap, refl}
use Rattle.oram_geometry.specs.Sizes.{trees_of}
use Rattle.oram_semantics.specs.Moves.{fetch_at}
use Rattle.oram_semantics.specs.Progress.Status.{Waiting}
use Rattle.oram_semantics.specs.State.{status_in}
use Rattle.oram_semantics.specs.declared.events.Submission.{Submission}
use Rattle.oram_core.specs.Core.{CoreValue, scheme_with}
use Rattle.oram_core.specs.PlainSteps.{fetch_of}
use Rattle.oram_core.proofs.MethodEnds.{stage_small, fetch_sound, fetched_so}
use Rattle.std.proofs.lemmas.Result.{IfOk-from_err}
use Rattle.oram_core.proofs.Heard.{on_err}
use Rattle.oram_core.proofs.machine.Core.fetch_next.Goals as goal

pub overflow_add-self : goal.overflow_add-self
overflow_add-self g c = omega (arith, stage_small _ _ _ c.self.invariant)

pub invariant_of-self : goal.invariant_of-self
invariant_of-self g c =
    let same = sym c.self.view_is in
    let waits = subst (λ (v : CoreValue g.row.S.Denot). status_in v.state ≡ Waiting) same c.requires.waiting in
    let odd = subst (λ (v : CoreValue g.row.S.Denot). v.state.entry_number % 2 ≡ 1) same c.requires.entry_number in
    let more = subst (λ (v : CoreValue g.row.S.Denot). v.state.entry_number + 1 < 2 * trees_of v.device) same c.requires.more in
    let fetch = subst (λ (v : CoreValue g.row.S.Denot). (x : Submission) (rest : List Submission) → v.state.queue ≡ x ∷ rest → c.in_ok-kept.field-0.kept ≡ fetch_of (fetch_at v.device (v.state.entry_number + 1) v.state.held_entry x)) same c.in_ok-kept.ensures.kept in
    fetch_sound _ _ _ _ c.self.invariant waits odd more fetch

pub returns-clause-ok : goal.returns-clause-ok
returns-clause-ok g c = λ x rest q.
    let same = sym c.self.view_is in
    let fetch = subst (λ (v : CoreValue g.row.S.Denot). (x : Submission) (rest : List Submission) → v.state.queue ≡ x ∷ rest → c.in_ok-kept.field-0.kept ≡ fetch_of (fetch_at v.device (v.state.entry_number + 1) v.state.held_entry x)) same c.in_ok-kept.ensures.kept in
    let queue = subst (λ (v : CoreValue g.row.S.Denot). v.state.queue ≡ x ∷ rest) same q in
    rw (← c.self.view_is) (fetched_so (scheme_with g.S.Sealer.cipher c.self.inside.device c.self.inside.sealer) _ x _ _ _ c.self.invariant (fetch x rest queue) c.in_ok-kept.ensures.sends c.new.ensures.items)

pub next_fetch-requires-clause-waiting : goal.next_fetch-requires-clause-waiting
next_fetch-requires-clause-waiting g c = c.requires.waiting

pub next_fetch-requires-clause-entry_number : goal.next_fetch-requires-clause-entry_number
next_fetch-requires-clause-entry_number g c = c.requires.entry_number

pub next_fetch-requires-clause-more : goal.next_fetch-requires-clause-more
next_fetch-requires-clause-more g c = c.requires.more

pub same-self : goal.same-self
same-self g c = refl

pub returns-in_err-kept-clause-kept : goal.returns-in_err-kept-clause-kept
returns-in_err-kept-clause-kept g c = (refl, refl)

pub returns-in_err-kept-clause-ok : goal.returns-in_err-kept-clause-ok
returns-in_err-kept-clause-ok g c = λ x rest q. IfOk-from_err c.from_residual.result _ c.from_residual.ensures.0

pub returns-in_err-kept-clause-err : goal.returns-in_err-kept-clause-err
returns-in_err-kept-clause-err g c = on_err _ c.from_residual.result refl

pub returns-clause-kept : goal.returns-clause-kept
returns-clause-kept g c = (ap (λ (u : CoreValue g.row.S.Denot). u.device) c.self.view_is, ap (λ (u : CoreValue g.row.S.Denot). u.sealer) c.self.view_is)
