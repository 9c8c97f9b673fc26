use Rattle.std.proofs.Common.{◌≡◌, ◌<◌, length, None, sym, subst, ap, refl}
use Rattle.oram_semantics.specs.Agree.{IsAllowed}
use Rattle.oram_core.specs.Core.{CoreValue}
use Rattle.oram_core.specs.PlainSteps.{first_message}
use Rattle.oram_core.proofs.Sound.{begun_as}
use Rattle.std.proofs.lemmas.Result.{IfOk-from_err}
use Rattle.oram_core.proofs.Heard.{on_err}
use Rattle.oram_core.proofs.machine.Core.begin.Goals as goal

pub invariant_of-self-2 : goal.invariant_of-self-2
invariant_of-self-2 g c =
    let x = c.args.submission in
    let same = sym c.self.view_is in
    let allowed = subst (λ (v : CoreValue g.row.S.Denot). IsAllowed v.device x) same c.requires.allowed in
    let healthy = subst (λ (v : CoreValue g.row.S.Denot). v.state.failure ≡ None) same c.requires.healthy in
    let ticket = subst (λ (v : CoreValue g.row.S.Denot). x.ticket ≡ v.state.next) same c.requires.ticket in
    let idle = subst (λ (v : CoreValue g.row.S.Denot). length v.state.queue ≡ 0) same c.requires.idle in
    let room = subst (λ (v : CoreValue g.row.S.Denot). v.state.next < v.device.lifetime) same c.requires.lifetime in
    let first = subst (λ (v : CoreValue g.row.S.Denot). c.in_ok-kept.field-0.kept ≡ first_message v.device v.state x) same c.in_ok-kept.ensures.kept in
    begun_as _ _ _ x _ _ c.self.invariant healthy idle room allowed ticket c.in_ok-push_back.ensures.items first

pub first_fetch-requires-clause-healthy : goal.first_fetch-requires-clause-healthy
first_fetch-requires-clause-healthy g c = c.requires.healthy

pub first_fetch-requires-clause-allowed : goal.first_fetch-requires-clause-allowed
first_fetch-requires-clause-allowed g c = c.requires.allowed

pub same-self : goal.same-self
same-self g c = refl

pub returns-in_err-kept-clause-kept : goal.returns-in_err-kept-clause-kept
returns-in_err-kept-clause-kept g c = (refl, refl)

pub returns-in_err-kept-clause-ok : goal.returns-in_err-kept-clause-ok
returns-in_err-kept-clause-ok g c = IfOk-from_err c.from_residual.result _ c.from_residual.ensures.0

pub returns-in_err-kept-clause-err : goal.returns-in_err-kept-clause-err
returns-in_err-kept-clause-err g c = on_err _ c.from_residual.result refl

pub returns-in_err-push_back-clause-kept : goal.returns-in_err-push_back-clause-kept
returns-in_err-push_back-clause-kept g c = (ap (λ (u : CoreValue g.row.S.Denot). u.device) c.self.view_is, ap (λ (u : CoreValue g.row.S.Denot). u.sealer) c.self.view_is)

pub returns-in_err-push_back-clause-ok : goal.returns-in_err-push_back-clause-ok
returns-in_err-push_back-clause-ok g c = IfOk-from_err c.from_residual-in_err-push_back.result _ c.from_residual-in_err-push_back.ensures.0

pub same-kept : goal.same-kept
same-kept g c = refl

pub returns-clause-kept : goal.returns-clause-kept
returns-clause-kept g c = (ap (λ (u : CoreValue g.row.S.Denot). u.device) c.self.view_is, ap (λ (u : CoreValue g.row.S.Denot). u.sealer) c.self.view_is)
