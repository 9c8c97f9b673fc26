use Rattle.std.proofs.Common.{◌≡◌, Some, IfOk, sym, ◌∙◌, subst, refl}
use Rattle.oram_semantics.specs.Run.{shown_by}
use Rattle.oram_semantics.specs.declared.events.Event.{Event}
use Rattle.oram_semantics.specs.declared.events.Note.TheVariants as note
use Rattle.oram_core.specs.Core.{scheme_of}
use Rattle.oram_core.specs.PlainSteps.{done, noted, plain_step}
use Rattle.oram_core.specs.Steps.{Steps}
use Rattle.oram_core.proofs.LocalRule.{accept_steps, refuse_steps, hear_steps, means_loss, stall_steps, resend_steps, answer_ignored, loss_ignored, retry_ignored, only_noted, waiting_by, stalling_by, accept_bound, resend_bound, plain_refusal}
use Rattle.oram_core.proofs.machine.Core.step.Goals.{in-Answer+else-is_waiting, in-Lost+else-is_waiting-2, in-Retry+else-is_stalled}
use Rattle.oram_core.proofs.machine.Core.step.Goals as goal

pub accept-requires : goal.accept-requires
accept-requires g c = sym c.refusal.ensures ∙ c.in-None.is

pub take_answer-requires : goal.take_answer-requires
take_answer-requires g c = waiting_by _ (sym c.is_waiting.ensures ∙ c.if-is_waiting.true)

pub stall-requires : goal.stall-requires
stall-requires g c = waiting_by _ (sym c.if-is_waiting-2.ensures)

pub returns-in-Some-clause-promise : goal.returns-in-Some-clause-promise
returns-in-Some-clause-promise g c =
    let now = c.args.self.now in
    let v = scheme_of g.S.Sealer.cipher now in
    subst (λ (e : Event). Steps v now.state e (shown_by c.only.result) now.state) (sym c.in-Submit.is)
    (refuse_steps v now.state c.in-Submit.session c.in-Submit.command c.in-Submit.words c.in-Some.refusal c.only.result now.state (sym c.refusal.ensures ∙ c.in-Some.is)
    (only_noted now.state c.only.result (note.Refused c.in-Some.refusal) c.only.ensures.note c.only.ensures.replies c.only.ensures.sends))

pub returns-in-None-clause-promise : goal.returns-in-None-clause-promise
returns-in-None-clause-promise g c =
    let now = c.args.self.now in
    let v = scheme_of g.S.Sealer.cipher now in
    subst (λ (e : Event). IfOk c.accept.result (λ r. Steps v now.state e (shown_by r) c.accept.new.self.state)) (sym c.in-Submit.is)
    (accept_steps v now.state c.in-Submit.session c.in-Submit.command c.in-Submit.words c.accept.result c.accept.new.self.state (sym c.refusal.ensures ∙ c.in-None.is) c.accept.ensures.ok)

pub returns-in-None-clause-free : goal.returns-in-None-clause-free
returns-in-None-clause-free g c = λ d is free.
    let now = c.args.self.now in
    let v = scheme_of g.S.Sealer.cipher now in
    absurd (accept_bound v now.state c.in-Submit.session c.in-Submit.command c.in-Submit.words d (sym c.refusal.ensures ∙ c.in-None.is)
    (subst (λ (e : Event). plain_step v now.state e ≡ Some d) c.in-Submit.is is) free)

pub returns-in-Answer-clause-promise : goal.returns-in-Answer-clause-promise
returns-in-Answer-clause-promise g c =
    let now = c.args.self.now in
    let v = scheme_of g.S.Sealer.cipher now in
    subst (λ (e : Event). IfOk c.take_answer.result (λ r. Steps v now.state e (shown_by r) c.take_answer.new.self.state)) (sym c.in-Answer.is)
    (hear_steps v now.state c.in-Answer.bytes c.take_answer.result c.take_answer.new.self.state (waiting_by _ (sym c.is_waiting.ensures ∙ c.if-is_waiting.true))
    (rw (sym c.as_slice.ensures) c.take_answer.ensures.moves) (rw (sym c.as_slice.ensures) c.take_answer.ensures.heard) (rw (sym c.as_slice.ensures) c.take_answer.ensures.verdict) (rw (sym c.as_slice.ensures) c.take_answer.ensures.no_room))

pub returns-in-Answer-clause-free : goal.returns-in-Answer-clause-free
returns-in-Answer-clause-free g c = λ d is free.
    let now = c.args.self.now in
    let v = scheme_of g.S.Sealer.cipher now in
    c.take_answer.ensures.free (c.as_slice.ensures ∙ plain_refusal v now.state c.in-Answer.bytes d (waiting_by _ (sym c.is_waiting.ensures ∙ c.if-is_waiting.true))
    (subst (λ (e : Event). plain_step v now.state e ≡ Some d) c.in-Answer.is is))

pub returns-in-Lost-clause-promise : goal.returns-in-Lost-clause-promise
returns-in-Lost-clause-promise g c =
    let now = c.args.self.now in
    let v = scheme_of g.S.Sealer.cipher now in
    stall_steps v now.state c.args.event.now c.stall.result c.stall.new.self.state (means_loss v now.state c.args.event.now c.in-Lost.is) (waiting_by _ (sym c.if-is_waiting-2.ensures)) c.stall.ensures.ok

pub returns-in-Retry-clause-promise : goal.returns-in-Retry-clause-promise
returns-in-Retry-clause-promise g c =
    let now = c.args.self.now in
    let v = scheme_of g.S.Sealer.cipher now in
    subst (λ (e : Event). IfOk c.resend.result (λ r. Steps v now.state e (shown_by r) c.resend.new.self.state)) (sym c.in-Retry.is)
    (resend_steps v now.state c.resend.result c.resend.new.self.state (stalling_by _ (sym c.is_stalled.ensures ∙ c.if-is_stalled.true)) c.resend.ensures.ok)

pub returns-in-Retry-clause-free : goal.returns-in-Retry-clause-free
returns-in-Retry-clause-free g c = λ d is free.
    let now = c.args.self.now in
    let v = scheme_of g.S.Sealer.cipher now in
    absurd (resend_bound v now.state d (stalling_by _ (sym c.is_stalled.ensures ∙ c.if-is_stalled.true)) (subst (λ (e : Event). plain_step v now.state e ≡ Some d) c.in-Retry.is is) free)

pub returns-in-Answer-2-clause-promise : goal.returns-in-Answer-2-clause-promise
returns-in-Answer-2-clause-promise g c =
    let now = c.args.self.now in
    let v = scheme_of g.S.Sealer.cipher now in
    let only = c.only-in-Answer-2 in
    let does : done only.result now.state ≡ noted now.state note.Unexpected = only_noted now.state only.result note.Unexpected only.ensures.note only.ensures.replies only.ensures.sends in
    elim c.in-Answer-2-1.branch [
      | in-Answer+else-is_waiting w ↦ subst (λ (e : Event). Steps v now.state e (shown_by only.result) now.state) (sym w.in-Answer.is) (answer_ignored v now.state w.in-Answer.bytes only.result now.state (sym w.is_waiting.ensures ∙ w.if-is_waiting.false) does)
      | in-Lost+else-is_waiting-2 w ↦ loss_ignored v now.state c.args.event.now only.result now.state (means_loss v now.state c.args.event.now w.in-Lost.is) (sym w.if-is_waiting-2.ensures) does
      | in-Retry+else-is_stalled w ↦ subst (λ (e : Event). Steps v now.state e (shown_by only.result) now.state) (sym w.in-Retry.is) (retry_ignored v now.state only.result now.state (sym w.is_stalled.ensures ∙ w.if-is_stalled.false) does)
    ]

pub returns-in-Some-clause-kept : goal.returns-in-Some-clause-kept
returns-in-Some-clause-kept g c = (refl, refl)

pub returns-in-Answer-2-clause-kept : goal.returns-in-Answer-2-clause-kept
returns-in-Answer-2-clause-kept g c = (refl, refl)

pub returns-in-Lost-clause-kept : goal.returns-in-Lost-clause-kept
returns-in-Lost-clause-kept g c = c.stall.ensures.kept

pub returns-in-Some-clause-free : goal.returns-in-Some-clause-free
returns-in-Some-clause-free g c = λ d is free. refl

pub returns-in-Lost-clause-free : goal.returns-in-Lost-clause-free
returns-in-Lost-clause-free g c = λ d is free. refl

pub returns-in-Answer-2-clause-free : goal.returns-in-Answer-2-clause-free
returns-in-Answer-2-clause-free g c = λ d is free. refl

pub returns-in-None-clause-kept : goal.returns-in-None-clause-kept
returns-in-None-clause-kept g c = c.accept.ensures.kept

pub returns-in-None-clause-err : goal.returns-in-None-clause-err
returns-in-None-clause-err g c = c.accept.ensures.err

pub returns-in-Answer-clause-kept : goal.returns-in-Answer-clause-kept
returns-in-Answer-clause-kept g c = c.take_answer.ensures.kept

pub returns-in-Answer-clause-err : goal.returns-in-Answer-clause-err
returns-in-Answer-clause-err g c = c.take_answer.ensures.err

pub returns-in-Retry-clause-kept : goal.returns-in-Retry-clause-kept
returns-in-Retry-clause-kept g c = c.resend.ensures.kept

pub returns-in-Retry-clause-err : goal.returns-in-Retry-clause-err
returns-in-Retry-clause-err g c = c.resend.ensures.err
