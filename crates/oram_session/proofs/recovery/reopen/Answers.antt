use Rattle.std.proofs.Common.{◌≡◌, false, true, [], ◌∷◌, ap, sym, refl, subst}
use Rattle.std.proofs.lemmas.Result.{on_err_weaker}
use Rattle.oram_semantics.specs.Run.{shown_by}
use Rattle.oram_semantics.specs.State.{State, status_in}
use Rattle.oram_semantics.specs.declared.events.Event.TheVariants.{Reopen, Retry}
use Rattle.oram_semantics.specs.declared.events.Reaction.{Reaction}
use Rattle.oram_core.specs.Core.{scheme_of}
use Rattle.oram_core.specs.PlainSteps.{Done, done, lost_by}
use Rattle.oram_session.specs.Exchanges.{Runs}
use Rattle.oram_session.specs.CoreWork.{IsUnderWay}
use Rattle.oram_session.proofs.Resumed.{reopened, resent, resent_under_way, reopened_and_retried, only_reopened, loss_is_free}
use Rattle.oram_session.proofs.CoreSteps.{steps_under}
use Rattle.oram_session.proofs.Turned.{IfOk-weaker}
use Rattle.oram_session.proofs.recovery.reopen.Goals as goal

pub returns-in_err-_stalled-clause-err : goal.returns-in_err-_stalled-clause-err
returns-in_err-_stalled-clause-err g c =
    let s = c.args.core.now.state in
    let none : false ≡ true = c.in_err-_stalled.ensures.free (lost_by s (status_in s)) refl (loss_is_free s) in
    absurd cc

pub returns-clause-ok : goal.returns-clause-ok
returns-clause-ok g c =
    let v = scheme_of g.S.Sealer.cipher c.args.core.now in
    let s = c.args.core.now.state in
    let mid = c.step.new.self in
    let t = c.step-2.new.self.state in
    let x = shown_by c.in_ok-_stalled._stalled in
    let first = c.in_ok-_stalled.ensures.promise in
    let a = reopened v s mid.state x c.requires first in
    IfOk-weaker c.step-2.result _ (λ (r : Reaction). Runs v s (Reopen ∷ Retry ∷ []) [] t)
    (λ r h.
    let second = steps_under g.S.Sealer.cipher c.args.core.now mid c.step.ensures.kept mid.state Retry (shown_by r) t h in
    let b = resent v s mid.state t (shown_by r) c.requires a.1 second in
    reopened_and_retried v s mid.state t x (shown_by r) first second a.0 (ap (λ (d : Done). d.replies) b))
    c.step-2.ensures.promise

pub returns-clause-under_way : goal.returns-clause-under_way
returns-clause-under_way g c =
    let v = scheme_of g.S.Sealer.cipher c.args.core.now in
    let s = c.args.core.now.state in
    let mid = c.step.new.self in
    let t = c.step-2.new.self.state in
    let a = reopened v s mid.state (shown_by c.in_ok-_stalled._stalled) c.requires c.in_ok-_stalled.ensures.promise in
    IfOk-weaker c.step-2.result _ (λ (r : Reaction). IsUnderWay (done r t))
    (λ r h.
    let second = steps_under g.S.Sealer.cipher c.args.core.now mid c.step.ensures.kept mid.state Retry (shown_by r) t h in
    resent_under_way s t (shown_by r) c.requires (resent v s mid.state t (shown_by r) c.requires a.1 second))
    c.step-2.ensures.promise

pub returns-clause-queue : goal.returns-clause-queue
returns-clause-queue g c =
    let v = scheme_of g.S.Sealer.cipher c.args.core.now in
    let s = c.args.core.now.state in
    let mid = c.step.new.self in
    let t = c.step-2.new.self.state in
    let a = reopened v s mid.state (shown_by c.in_ok-_stalled._stalled) c.requires c.in_ok-_stalled.ensures.promise in
    IfOk-weaker c.step-2.result _ (λ (r : Reaction). t.queue ≡ s.queue)
    (λ r h.
    let second = steps_under g.S.Sealer.cipher c.args.core.now mid c.step.ensures.kept mid.state Retry (shown_by r) t h in
    ap (λ (d : Done). d.state.queue) (resent v s mid.state t (shown_by r) c.requires a.1 second))
    c.step-2.ensures.promise

pub returns-clause-err : goal.returns-clause-err
returns-clause-err g c =
    let v = scheme_of g.S.Sealer.cipher c.args.core.now in
    let s = c.args.core.now.state in
    let mid = c.step.new.self in
    let x = shown_by c.in_ok-_stalled._stalled in
    let first = c.in_ok-_stalled.ensures.promise in
    let none = (reopened v s mid.state x c.requires first).0 in
    on_err_weaker c.step-2.result
    (λ same. subst (λ (t : State). Runs v s (Reopen ∷ []) [] t) (sym (ap (λ w. w.state) same)) (only_reopened v s mid.state x first none))
    c.step-2.ensures.err

pub returns-in_err-_stalled-clause-noted : goal.returns-in_err-_stalled-clause-noted
returns-in_err-_stalled-clause-noted g c = c.step.ensures.noted

pub returns-clause-noted : goal.returns-clause-noted
returns-clause-noted g c = λ table noted. c.step-2.ensures.noted table (c.step.ensures.noted table noted)
