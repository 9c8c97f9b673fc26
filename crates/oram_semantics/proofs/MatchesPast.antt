-- What a core that follows a past says about it.
use Rattle.std.proofs.Common.{◌≡◌, ◌+◌, ◌-◌, ◌*◌, ◌<◌, List, [], ◌∷◌, length, Option, Some, None, refl, ap, sym, ◌∙◌, subst, arith}
use Rattle.oram_geometry.specs.Sizes.{trees_of}
use Rattle.oram_semantics.specs.Progress.{Setting, Step, accepted, progress, status}
use Rattle.oram_semantics.specs.Law.{CoresTell, StepsTo, TellsOf, new_state}
use Rattle.oram_semantics.specs.Run.{Shown, answered_tickets, step_of, waiting_by}
use Rattle.oram_semantics.specs.State.{State, status_by, status_in}
use Rattle.oram_semantics.specs.declared.events.Event.{Event}
use Rattle.oram_semantics.specs.declared.events.Reason.{Reason}
use Rattle.oram_semantics.specs.declared.events.Submission.{Submission}
use Rattle.oram_semantics.proofs.Bounds.{IsFit, fit_device}
use Rattle.oram_semantics.proofs.Formatting.{formatted_holds}
use Rattle.oram_semantics.proofs.WholeRuns.{new_follows, one_step}
use Rattle.oram_semantics.proofs.Follows.{FollowsAt, Follows, stage_few}
use Rattle.oram_semantics.proofs.Counts.{accepted_len, answered_is, status_ends, status_is}

next_by : (v : Setting) (past : List Step) (s : State) (old : List Submission) (failure : Option Reason)
    → FollowsAt v past old s failure → s.next ≡ length (accepted past)
next_by v past s old (Some e) f = f.next
next_by v past s old None f = f.0.next ∙ sym (accepted_len past old s.queue f.0.split)

-- the next ticket
pub next_matches : (v : Setting) (past : List Step) (s : State) → Follows v past s → s.next ≡ length (accepted past)
next_matches v past s f = next_by v past s f.old s.failure f.follows

failure_by : (v : Setting) (past : List Step) (s : State) (old : List Submission) (failure : Option Reason)
    → FollowsAt v past old s failure → failure ≡ (progress v past).failure
failure_by v past s old (Some e) f = sym f.failed
failure_by v past s old None f = sym f.0.alive

-- the failure
pub failure_matches : (v : Setting) (past : List Step) (s : State) → Follows v past s → s.failure ≡ (progress v past).failure
failure_matches v past s f = failure_by v past s f.old s.failure f.follows

status_matches_by : (v : Setting) (past : List Step) (s : State) (old : List Submission) (failure : Option Reason)
    → s.failure ≡ failure → IsFit v.scheme.device → FollowsAt v past old s failure
    → status_by failure s.queue s.lost ≡ status v past
status_matches_by v past s old (Some e) h fit f = sym (status_ends v past e f.failed)
status_matches_by v past s old None h fit f =
    sym (status_is v past old s fit f.0 h ∙ ap (λ (o : Option Reason). status_by o s.queue s.lost) h)

-- the status
pub status_matches : (v : Setting) (past : List Step) (s : State) → IsFit v.scheme.device → Follows v past s
    → status_in s ≡ status v past
status_matches v past s fit f = status_matches_by v past s f.old s.failure refl fit f.follows

few_wait : (v : Setting) (past : List Step) (s : State) (old : List Submission) (failure : Option Reason) → failure ≡ None
    → IsFit v.scheme.device → FollowsAt v past old s failure
    → length s.queue ≡ length (accepted past) - answered_tickets v past
few_wait v past s old (Some e) h fit f = absurd (let both : Some e ≡ None = h in cc)
few_wait v past s old None h fit f =
    let l = f.0 in
    let few : s.entry_number < 2 * trees_of v.scheme.device = (stage_few v past old s s.queue fit l.work).0 in
    let len : length (accepted past) ≡ length old + length s.queue = accepted_len past old s.queue l.split in
    let tickets : answered_tickets v past ≡ length old = answered_is v past (length old) s.entry_number l.good few in
    omega arith

-- the commands without a reply
pub waiting_matches : (v : Setting) (past : List Step) (s : State) → s.failure ≡ None → IsFit v.scheme.device → Follows v past s
    → length s.queue ≡ length (accepted past) - answered_tickets v past
waiting_matches v past s h fit f = few_wait v past s f.old s.failure h fit f.follows

none_waits_by : (v : Setting) (past : List Step) (s : State) (old : List Submission) (failure : Option Reason) (e : Reason)
    → failure ≡ Some e → FollowsAt v past old s failure → s.queue ≡ []
none_waits_by v past s old (Some other) e h f = f.queue
none_waits_by v past s old None e h f = absurd (let both : None ≡ Some e = h in cc)

-- after a failure no command is without a reply
pub none_waits : (v : Setting) (past : List Step) (s : State) (e : Reason) → s.failure ≡ Some e → Follows v past s → s.queue ≡ []
none_waits v past s e h f = none_waits_by v past s f.old s.failure e h f.follows

waits_matches : (v : Setting) (past : List Step) (s : State) (failure : Option Reason) → s.failure ≡ failure → IsFit v.scheme.device → Follows v past s
    → length s.queue ≡ waiting_by failure (length (accepted past) - answered_tickets v past)
waits_matches v past s None h fit f = waiting_matches v past s h fit f
waits_matches v past s (Some e) h fit f = ap length (none_waits v past s e h f)

-- what a core reports agrees with the past that it follows
pub tells_of : (v : Setting) (past : List Step) (s : State) → IsFit v.scheme.device → Follows v past s → TellsOf v past s
tells_of v past s fit f = record {
  next = next_matches v past s f;
  waiting = waits_matches v past s s.failure refl fit f ∙ ap (λ (o : Option Reason). waiting_by o (length (accepted past) - answered_tickets v past)) (failure_matches v past s f);
  status = status_matches v past s fit f;
  failure = failure_matches v past s f;
}

-- steps lead from a core that follows a past to one that follows the longer past
pub follows_on : (v : Setting) (past : List Step) (s : State) (events : List Event) (xs : List Shown) (now : List Step) (t : State) → IsFit v.scheme.device
    → Follows v past s → StepsTo v past s events xs now t → Follows v now t
follows_on v past s [] [] now t fit f run = subst (λ (p : List Step). Follows v p t) (sym run.0) (subst (Follows v past) (sym run.1) f)
follows_on v past s (event ∷ events) (x ∷ xs) now t fit f run =
    let k = one_step v past s run.0 event x fit f run.1 run.2 in
    follows_on v (step_of event x ∷ past) run.0 events xs now t fit k.follows run.3
follows_on v past s [] (x ∷ xs) now t fit f run = absurd run
follows_on v past s (event ∷ events) [] now t fit f run = absurd run

pub cores_tell : CoresTell
cores_tell v trees events xs past s is made run =
    let fit : IsFit v.scheme.device = fit_device v.scheme.device is in
    tells_of v past s fit (follows_on v [] (new_state v trees) events xs past s fit (new_follows v trees fit (formatted_holds v trees made)) run)
