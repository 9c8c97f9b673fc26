use Rattle.std.proofs.Common.{◌≡◌, ◌<◌, length, sym, subst, ap}
use Rattle.oram_semantics.specs.Agree.{IsAllowed}
use Rattle.oram_core.specs.Core.{CoreValue}
use Rattle.oram_core.proofs.Sound.{some_healthy, sound_pushed}
use Rattle.std.proofs.lemmas.Result.{IfOk-from_err}
use Rattle.oram_core.proofs.machine.Core.enqueue.Goals as goal

pub invariant_of-self-2 : goal.invariant_of-self-2
invariant_of-self-2 g c =
    let x = c.args.submission in
    let same = sym c.self.view_is in
    let allowed = subst (λ (v : CoreValue g.row.S.Denot). IsAllowed v.device x) same c.requires.allowed in
    let some = subst (λ (v : CoreValue g.row.S.Denot). 0 < length v.state.queue) same c.requires.some in
    let few = subst (λ (v : CoreValue g.row.S.Denot). length v.state.queue < 64) same c.requires.few in
    let room = subst (λ (v : CoreValue g.row.S.Denot). v.state.next < v.device.lifetime) same c.requires.lifetime in
    let ticket = subst (λ (v : CoreValue g.row.S.Denot). x.ticket ≡ v.state.next) same c.requires.ticket in
    rw c.in_ok-push_back.ensures.items (sound_pushed _ _ _ x c.self.invariant (some_healthy _ _ _ c.self.invariant some) some few room allowed ticket)

pub returns-in_err-push_back-clause-kept : goal.returns-in_err-push_back-clause-kept
returns-in_err-push_back-clause-kept g c = (ap (λ (u : CoreValue g.row.S.Denot). u.device) c.self.view_is, ap (λ (u : CoreValue g.row.S.Denot). u.sealer) c.self.view_is)

pub returns-in_err-push_back-clause-ok : goal.returns-in_err-push_back-clause-ok
returns-in_err-push_back-clause-ok g c = IfOk-from_err c.from_residual.result _ c.from_residual.ensures.0

pub returns-clause-kept : goal.returns-clause-kept
returns-clause-kept g c = (ap (λ (u : CoreValue g.row.S.Denot). u.device) c.self.view_is, ap (λ (u : CoreValue g.row.S.Denot). u.sealer) c.self.view_is)
