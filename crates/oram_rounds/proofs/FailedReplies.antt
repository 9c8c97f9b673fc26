-- A reply that says that the device has failed comes from a core that has.
use Rattle.std.proofs.Common.{◌≡◌, ℕ, List, [], Option, sym, ap, ◌∙◌, subst, inl, inr}
use Rattle.std.specs.List.{All}
use Rattle.std.proofs.lemmas.List.Elements.{All-cons, All-map, All-nil}
use Rattle.oram_semantics.specs.Blocks.{body_from}
use Rattle.oram_semantics.specs.Events.{failed_reply}
use Rattle.oram_semantics.specs.Progress.Status.{Over, Waiting}
use Rattle.oram_semantics.specs.Scheme.{Scheme}
use Rattle.oram_semantics.specs.State.{State, status_by, status_in}
use Rattle.oram_semantics.specs.declared.events.Command.{Command}
use Rattle.oram_semantics.specs.declared.events.Command.TheVariants.{Read, Write, Discard}
use Rattle.oram_semantics.specs.declared.events.Reason.{Reason}
use Rattle.oram_semantics.specs.declared.events.Reply.{Reply}
use Rattle.oram_semantics.specs.declared.events.ReplyBody.TheVariants.{Failed}
use Rattle.oram_semantics.specs.declared.events.Submission.{Submission}
use Rattle.oram_core.specs.PlainSteps.{Done, finished_by}
use Rattle.oram_core.specs.Steps.{Heard}
use Rattle.oram_session.specs.Honesty.{HasFailed}

-- the reply says that the device has failed only if the core has failed
abbrev pub IsOfFailed : State → Reply → Type 0
IsOfFailed s reply = reply.body ≡ Failed → HasFailed s

pub never_failed : (before : List ℕ) (c : Command) → body_from before c ≡ Failed → ⊥
never_failed before (Read a) h = cc
never_failed before (Write a bytes) h = cc
never_failed before (Discard a) h = cc

finished_well : (v : Scheme) (s t : State) (x : Submission) (rest : List Submission) → All (IsOfFailed t) (finished_by v s x rest).replies
finished_well v s t x rest =
    let reply : Reply = record { session = x.session; ticket = x.ticket; body = body_from s.held_data x.command } in
    All-cons (IsOfFailed t) reply [] (λ h. absurd (never_failed s.held_data x.command h)) (All-nil (IsOfFailed t))

pub heard_failures : (v : Scheme) (s : State) (d : Done) → Heard v s d → All (IsOfFailed d.state) d.replies
heard_failures v s d (inl f) =
    let failed : HasFailed d.state = (f.reason, ap (λ (t : State). t.failure) f.state) in
    subst (All (IsOfFailed d.state)) (sym f.replies) (All-map (IsOfFailed d.state) failed_reply s.queue (λ k x lt h. failed))
heard_failures v s d (inr (inl g)) = subst (All (IsOfFailed d.state)) (sym g.replies) (All-nil (IsOfFailed d.state))
heard_failures v s d (inr (inr r)) = subst (λ (m : Done). All (IsOfFailed d.state) m.replies) (sym r.does) (finished_well v s d.state r.oldest r.rest)

-- a core that waits for an answer has not failed
pub waits_unfailed : (s : State) → status_in s ≡ Waiting → HasFailed s → ⊥
waits_unfailed s waits failed =
    let over : status_in s ≡ Over = ap (λ (f : Option Reason). status_by f s.queue s.lost) failed.1 in
    let both = sym over ∙ waits in
    cc

-- so no earlier reply says that the device has failed, whatever becomes of the core
pub still_of_failed : (s t : State) (replies : List Reply) → status_in s ≡ Waiting → All (IsOfFailed s) replies → All (IsOfFailed t) replies
still_of_failed s t replies waits all = λ k x lt says. absurd (waits_unfailed s waits (all k x lt says))
