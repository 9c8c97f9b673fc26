use Rattle.std.proofs.Common.{◌≡◌, ◌+◌, ◌*◌, ◌<◌, ◌∷◌, List, length, sym, subst, ap}
use Rattle.oram_geometry.specs.Sizes.{trees_of}
use Rattle.oram_semantics.specs.Progress.Status.{Waiting}
use Rattle.oram_semantics.specs.State.{status_in}
use Rattle.oram_semantics.specs.declared.events.Submission.{Submission}
use Rattle.oram_core.specs.Core.{CoreValue, scheme_with}
use Rattle.oram_core.specs.PlainSteps.{first_message}
use Rattle.oram_core.proofs.MethodEnds.{pass_sound, passed_by}
use Rattle.std.proofs.lemmas.Result.{IfOk-from_err}
use Rattle.oram_core.proofs.machine.Core.finish_before_next.Goals as goal

pub invariant_of-self-2 : goal.invariant_of-self-2
invariant_of-self-2 g c =
    let same = sym c.self.view_is in
    let waits = subst (λ (v : CoreValue g.row.S.Denot). status_in v.state ≡ Waiting) same c.requires.waiting in
    let end = subst (λ (v : CoreValue g.row.S.Denot). v.state.entry_number + 1 ≡ 2 * trees_of v.device) same c.requires.last in
    let more = subst (λ (v : CoreValue g.row.S.Denot). 1 < length v.state.queue) same c.requires.more in
    let next = subst (λ (v : CoreValue g.row.S.Denot). (x y : Submission) (rest : List Submission) → v.state.queue ≡ x ∷ y ∷ rest → c.args.sending.kept ≡ first_message v.device v.state y) same c.requires.next in
    pass_sound _ _ _ _ _ _ c.self.invariant waits end more next c.in_ok-replies.ensures.queue c.in_ok-replies.ensures.ok

pub returns-clause-ok : goal.returns-clause-ok
returns-clause-ok g c = λ x rest q.
    let same = sym c.self.view_is in
    let more = subst (λ (v : CoreValue g.row.S.Denot). 1 < length v.state.queue) same c.requires.more in
    let next = subst (λ (v : CoreValue g.row.S.Denot). (x y : Submission) (rest : List Submission) → v.state.queue ≡ x ∷ y ∷ rest → c.args.sending.kept ≡ first_message v.device v.state y) same c.requires.next in
    let queue = subst (λ (v : CoreValue g.row.S.Denot). v.state.queue ≡ x ∷ rest) same q in
    rw (← c.self.view_is) (passed_by (scheme_with g.S.Sealer.cipher c.self.inside.device c.self.inside.sealer) _ x rest _ _ _ _ _ c.self.invariant queue more next (c.in_ok-replies.ensures.replies x rest queue) c.requires.sends c.in_ok-replies.ensures.queue c.in_ok-replies.ensures.ok)

pub returns-in_err-replies-clause-kept : goal.returns-in_err-replies-clause-kept
returns-in_err-replies-clause-kept g c = (ap (λ (u : CoreValue g.row.S.Denot). u.device) c.self.view_is, ap (λ (u : CoreValue g.row.S.Denot). u.sealer) c.self.view_is)

pub returns-in_err-replies-clause-ok : goal.returns-in_err-replies-clause-ok
returns-in_err-replies-clause-ok g c = λ x rest q. IfOk-from_err c.from_residual.result _ c.from_residual.ensures.0

pub returns-clause-kept : goal.returns-clause-kept
returns-clause-kept g c = (ap (λ (u : CoreValue g.row.S.Denot). u.device) c.self.view_is, ap (λ (u : CoreValue g.row.S.Denot). u.sealer) c.self.view_is)
