use Rattle.std.proofs.Common.{◌≡◌, ◌≢◌, [], sym, ap, subst, refl, arith}
use Rattle.oram_semantics.specs.Run.{shown_by}
use Rattle.oram_semantics.specs.State.{State, status_in}
use Rattle.oram_semantics.specs.Progress.Status.{Waiting}
use Rattle.oram_semantics.specs.declared.events.Event.TheVariants.{Retry}
use Rattle.oram_semantics.specs.declared.events.Note.TheVariants.{Stalled}
use Rattle.oram_core.specs.Core.{scheme_of}
use Rattle.oram_core.specs.Steps.{Heard, did}
use Rattle.oram_session.specs.Exchanges.{Delivery, event_of, IsCutOff}
use Rattle.oram_session.proofs.CoreSteps.{steps_under, same_trans, answer_noted, stall_noted, stalled_status, heard_is}
use Rattle.oram_session.proofs.Exchanged.{tried_more, sent, untaken, taken_then}
use Rattle.oram_rounds.proofs.delivery.deliver.Goals as goal
use Rattle.oram_rounds.proofs.delivery.deliver.Goals.{in-Stalled, in_default}

pub returns-then-not-matches-clause-ok : goal.returns-then-not-matches-clause-ok
returns-then-not-matches-clause-ok g c =
    let v = scheme_of g.S.Sealer.cipher c.args.core.now in
    let k = c.loop-reaction.invariant.tried in
    let e = c.in_ok-reaction.ensures.ok in
    let step = steps_under g.S.Sealer.cipher c.args.core.now c.loop-reaction.core c.loop-reaction.invariant.kept
    c.loop-reaction.core.state (event_of e.0) (shown_by c.in_ok-reaction.reaction) c.attempt.new.core.state e.2 in
    let waits : status_in c.loop-reaction.core.state ≡ Waiting = subst (λ (s : State). status_in s ≡ Waiting) (sym k.same) c.requires.waits in
    let ne : c.in_ok-reaction.reaction.note ≢ Stalled = elim c.match-matches.branch [ in-Stalled w ↦ absurd cc | in_default w ↦ w.in_default.not-Stalled ] in (
      record { message = c.args.message.now; stalls = k.stalls; last = e.0; replies = c.in_ok-reaction.reaction.replies.items },
      sent v g.L.Link.calls c.args.most _ _ _ _ _ _ _ _ e.0 (shown_by c.in_ok-reaction.reaction) c.requires.waits c.requires.message c.loop-reaction.invariant.few k e.1 step,
      answer_noted v c.loop-reaction.core.state c.attempt.new.core.state e.0 (shown_by c.in_ok-reaction.reaction) waits step ne,
      refl,
    )

pub returns-then-not-matches-clause-heard : goal.returns-then-not-matches-clause-heard
returns-then-not-matches-clause-heard g c =
    let v = scheme_of g.S.Sealer.cipher c.args.core.now in
    let k = c.loop-reaction.invariant.tried in
    let e = c.in_ok-reaction.ensures.ok in
    let x = shown_by c.in_ok-reaction.reaction in
    let step = steps_under g.S.Sealer.cipher c.args.core.now c.loop-reaction.core c.loop-reaction.invariant.kept
    c.loop-reaction.core.state (event_of e.0) x c.attempt.new.core.state e.2 in
    let waits : status_in c.loop-reaction.core.state ≡ Waiting = subst (λ (s : State). status_in s ≡ Waiting) (sym k.same) c.requires.waits in
    let ne : c.in_ok-reaction.reaction.note ≢ Stalled = elim c.match-matches.branch [ in-Stalled w ↦ absurd cc | in_default w ↦ w.in_default.not-Stalled ] in
    let last = answer_noted v c.loop-reaction.core.state c.attempt.new.core.state e.0 x waits step ne in
    subst (λ (s : State). Heard v s (did x c.attempt.new.core.state)) k.same (heard_is v c.loop-reaction.core.state c.attempt.new.core.state e.0 x waits last step)

pub returns-then-retries-most-clause-stalled : goal.returns-then-retries-most-clause-stalled
returns-then-retries-most-clause-stalled g c = λ _.
    let v = scheme_of g.S.Sealer.cipher c.args.core.now in
    let k = c.loop-reaction.invariant.tried in
    let e = c.in_ok-reaction.ensures.ok in
    let x = shown_by c.in_ok-reaction.reaction in
    let step = steps_under g.S.Sealer.cipher c.args.core.now c.loop-reaction.core c.loop-reaction.invariant.kept
    c.loop-reaction.core.state (event_of e.0) x c.attempt.new.core.state e.2 in
    let waits : status_in c.loop-reaction.core.state ≡ Waiting = subst (λ (s : State). status_in s ≡ Waiting) (sym k.same) c.requires.waits in
    let is : c.in_ok-reaction.reaction.note ≡ Stalled = elim c.match-matches.branch [ in-Stalled w ↦ w.in-Stalled.is | in_default w ↦ absurd cc ] in (
      record { message = c.args.message.now; stalls = k.stalls; last = e.0; replies = c.in_ok-reaction.reaction.replies.items },
      sent v g.L.Link.calls c.args.most _ _ _ _ _ _ _ _ e.0 x c.requires.waits c.requires.message c.loop-reaction.invariant.few k e.1 step,
      (let n = k.count in omega arith, stall_noted v c.loop-reaction.core.state c.attempt.new.core.state e.0 x waits step is),
    )

pub returns-then-retries-most-clause-left : goal.returns-then-retries-most-clause-left
returns-then-retries-most-clause-left g c = λ _.
    let k = c.loop-reaction.invariant.tried in
    let e = c.in_ok-reaction.ensures.ok in
    let x = shown_by c.in_ok-reaction.reaction in
    let u = scheme_of g.S.Sealer.cipher c.loop-reaction.core in
    let waits : status_in c.loop-reaction.core.state ≡ Waiting = subst (λ (s : State). status_in s ≡ Waiting) (sym k.same) c.requires.waits in
    let is : c.in_ok-reaction.reaction.note ≡ Stalled = elim c.match-matches.branch [ in-Stalled w ↦ w.in-Stalled.is | in_default w ↦ absurd cc ] in
    stalled_status u c.loop-reaction.core.state c.attempt.new.core.state e.0 x waits (stall_noted u c.loop-reaction.core.state c.attempt.new.core.state e.0 x waits e.2 is) e.2

pub loop-reaction-preserved : goal.loop-reaction-preserved
loop-reaction-preserved g c =
    let v = scheme_of g.S.Sealer.cipher c.args.core.now in
    let k = c.loop-reaction.invariant.tried in
    let e = c.in_ok-reaction.ensures.ok in
    let x = shown_by c.in_ok-reaction.reaction in
    let step = steps_under g.S.Sealer.cipher c.args.core.now c.loop-reaction.core c.loop-reaction.invariant.kept
    c.loop-reaction.core.state (event_of e.0) x c.attempt.new.core.state e.2 in
    let waits : status_in c.loop-reaction.core.state ≡ Waiting = subst (λ (s : State). status_in s ≡ Waiting) (sym k.same) c.requires.waits in
    let is : c.in_ok-reaction.reaction.note ≡ Stalled = elim c.match-matches.branch [ in-Stalled w ↦ w.in-Stalled.is | in_default w ↦ absurd cc ] in
    let last = stall_noted v c.loop-reaction.core.state c.attempt.new.core.state e.0 x waits step is in
    let kept = same_trans c.args.core.now c.loop-reaction.core c.attempt.new.core c.loop-reaction.invariant.kept c.attempt.ensures.kept in
    let again = steps_under g.S.Sealer.cipher c.args.core.now c.attempt.new.core kept
    c.attempt.new.core.state Retry (shown_by c.in_ok-_resent._resent) c.step.new.self.state c.in_ok-_resent.ensures.promise in
    record {
      kept = same_trans c.args.core.now c.attempt.new.core c.step.new.self kept c.step.ensures.kept;
      noted = λ table noted. c.step.ensures.noted table (c.attempt.ensures.noted table (c.loop-reaction.invariant.noted table noted));
      tried = tried_more v g.L.Link.calls _ _ _ _ _ _ _ _ _ e.0 x (shown_by c.in_ok-_resent._resent) c.requires.waits k e.1 last step again;
      few = omega arith;
    }

pub returns-in_err-reaction-clause-memory : goal.returns-in_err-reaction-clause-memory
returns-in_err-reaction-clause-memory g c = λ _.
    let v = scheme_of g.S.Sealer.cipher c.args.core.now in
    let k = c.loop-reaction.invariant.tried in
    let e = c.in_err-reaction.ensures.err in
    let x : Delivery = record { message = c.args.message.now; stalls = k.stalls; last = e.1.0; replies = [] } in (
      x,
      subst (λ (s : State). IsCutOff v g.L.Link.calls c.args.most (c.args.core.now.state, c.args.link.now) x (s, c.attempt.new.link)) (sym (ap (λ w. w.state) e.0))
          (untaken v g.L.Link.calls c.args.most _ _ _ _ _ _ _ e.1.0 c.requires.waits c.requires.message c.loop-reaction.invariant.few k e.1.1),
    )

pub returns-in_err-_resent-clause-memory : goal.returns-in_err-_resent-clause-memory
returns-in_err-_resent-clause-memory g c = λ _.
    let v = scheme_of g.S.Sealer.cipher c.args.core.now in
    let k = c.loop-reaction.invariant.tried in
    let e = c.in_ok-reaction.ensures.ok in
    let step = steps_under g.S.Sealer.cipher c.args.core.now c.loop-reaction.core c.loop-reaction.invariant.kept
    c.loop-reaction.core.state (event_of e.0) (shown_by c.in_ok-reaction.reaction) c.attempt.new.core.state e.2 in
    let x : Delivery = record { message = c.args.message.now; stalls = k.stalls; last = e.0; replies = c.in_ok-reaction.reaction.replies.items } in (
      x,
      subst (λ (s : State). IsCutOff v g.L.Link.calls c.args.most (c.args.core.now.state, c.args.link.now) x (s, c.attempt.new.link)) (sym (ap (λ w. w.state) c.in_err-_resent.ensures.err))
          (taken_then v g.L.Link.calls c.args.most _ _ _
          (sent v g.L.Link.calls c.args.most _ _ _ _ _ _ _ _ e.0 (shown_by c.in_ok-reaction.reaction) c.requires.waits c.requires.message c.loop-reaction.invariant.few k e.1 step)),
    )

pub returns-in_err-reaction-clause-noted : goal.returns-in_err-reaction-clause-noted
returns-in_err-reaction-clause-noted g c = λ table noted. c.attempt.ensures.noted table (c.loop-reaction.invariant.noted table noted)

pub returns-then-not-matches-clause-noted : goal.returns-then-not-matches-clause-noted
returns-then-not-matches-clause-noted g c = λ table noted. c.attempt.ensures.noted table (c.loop-reaction.invariant.noted table noted)

pub returns-then-retries-most-clause-noted : goal.returns-then-retries-most-clause-noted
returns-then-retries-most-clause-noted g c = λ table noted. c.attempt.ensures.noted table (c.loop-reaction.invariant.noted table noted)

pub returns-in_err-_resent-clause-noted : goal.returns-in_err-_resent-clause-noted
returns-in_err-_resent-clause-noted g c = λ table noted. c.step.ensures.noted table (c.attempt.ensures.noted table (c.loop-reaction.invariant.noted table noted))
