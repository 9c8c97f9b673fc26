use Rattle.std.proofs.Common.{◌≡◌, ◌+◌, ◌*◌, ◌∷◌, length, sym, subst, ◌∙◌, ap}
use Rattle.oram_geometry.specs.Sizes.{trees_of}
use Rattle.oram_semantics.specs.Progress.Status.{Waiting}
use Rattle.oram_semantics.specs.State.{status_in}
use Rattle.oram_core.specs.Core.{CoreValue, scheme_with}
use Rattle.oram_core.proofs.MethodEnds.{end_sound, ended_by}
use Rattle.std.proofs.lemmas.Result.{IfOk-from_err}
use Rattle.oram_core.proofs.machine.Core.finish_last.Goals as goal

pub invariant_of-self-2 : goal.invariant_of-self-2
invariant_of-self-2 g c =
    let same = sym c.self.view_is in
    let waits = subst (λ (v : CoreValue g.row.S.Denot). status_in v.state ≡ Waiting) same c.requires.waiting in
    let end = subst (λ (v : CoreValue g.row.S.Denot). v.state.entry_number + 1 ≡ 2 * trees_of v.device) same c.requires.last in
    let alone = subst (λ (v : CoreValue g.row.S.Denot). length v.state.queue ≡ 1) same c.requires.alone in
    end_sound _ _ _ _ _ _ c.self.invariant waits end alone c.in_ok-replies.ensures.queue c.in_ok-replies.ensures.ok (c.from_vec.ensures ∙ c.new.ensures.items)

pub returns-clause-ok : goal.returns-clause-ok
returns-clause-ok g c = λ x rest q.
    let same = sym c.self.view_is in
    let alone = subst (λ (v : CoreValue g.row.S.Denot). length v.state.queue ≡ 1) same c.requires.alone in
    let queue = subst (λ (v : CoreValue g.row.S.Denot). v.state.queue ≡ x ∷ rest) same q in
    rw (← c.self.view_is) (ended_by (scheme_with g.S.Sealer.cipher c.self.inside.device c.self.inside.sealer) _ x rest _ _ _ _ _ c.self.invariant queue alone (c.in_ok-replies.ensures.replies x rest queue) c.new-2.ensures.items c.in_ok-replies.ensures.queue c.in_ok-replies.ensures.ok (c.from_vec.ensures ∙ c.new.ensures.items))

pub returns-in_err-replies-clause-kept : goal.returns-in_err-replies-clause-kept
returns-in_err-replies-clause-kept g c = (ap (λ (u : CoreValue g.row.S.Denot). u.device) c.self.view_is, ap (λ (u : CoreValue g.row.S.Denot). u.sealer) c.self.view_is)

pub returns-in_err-replies-clause-ok : goal.returns-in_err-replies-clause-ok
returns-in_err-replies-clause-ok g c = λ x rest q. IfOk-from_err c.from_residual.result _ c.from_residual.ensures.0

pub returns-clause-kept : goal.returns-clause-kept
returns-clause-kept g c = (ap (λ (u : CoreValue g.row.S.Denot). u.device) c.self.view_is, ap (λ (u : CoreValue g.row.S.Denot). u.sealer) c.self.view_is)
