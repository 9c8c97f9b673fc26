-- A device that is held is safe in a process that begins with it, and stays so when commands are submitted.
use Rattle.std.proofs.Common.{◌≡◌, ℕ, Bool, true, false, List, [], ◌∷◌, ◌++◌, length, Option, Some, None, refl, sym, ap, ◌∙◌, subst, inl, inr}
use Rattle.std.specs.List.{FoldsTo}
use Rattle.oram_geometry.specs.Sizes.{IsDevice}
use Rattle.oram_geometry.specs.declared.Sizes.{Sizes}
use Rattle.oram_host.specs.Host.{Host}
use Rattle.oram_semantics.specs.Progress.{Status}
use Rattle.oram_semantics.specs.Progress.Status.{Idle, Over, Stalling, Waiting}
use Rattle.oram_semantics.specs.Run.{is_over, refusal_of}
use Rattle.oram_semantics.specs.Scheme.{Scheme}
use Rattle.oram_semantics.specs.ArrayReplies.{array_after}
use Rattle.oram_semantics.specs.State.{State, status_by, status_in}
use Rattle.oram_semantics.specs.declared.events.Command.{Command}
use Rattle.oram_semantics.specs.declared.events.Event.TheVariants.{Submit}
use Rattle.oram_semantics.specs.declared.events.Note.{Note}
use Rattle.oram_semantics.specs.declared.events.Refusal.{Refusal}
use Rattle.oram_semantics.specs.declared.events.Reason.{Reason}
use Rattle.oram_semantics.specs.declared.events.Submission.{Submission}
use Rattle.oram_core.specs.PlainSteps.{Done as Did, submitted_by}
use Rattle.oram_core.specs.Steps.{Steps, did}
use Rattle.oram_host_laws.specs.Honest.{IsHonest, KeepsAll}
use Rattle.oram_host_laws.specs.HostRecords.{HostsBy}
use Rattle.oram_session.specs.CoreWork.{HasNoWork, has_no_work_in}
use Rattle.oram_link_laws.specs.Repair.{IsAmong}
use Rattle.oram_link_laws.specs.Runs.{IsHeldBy}
use Rattle.oram_rounds.specs.CatchUp.{CatchesUp}
use Rattle.oram_rounds.specs.Law.{AreAhead}
use Rattle.oram_rounds.specs.Start.{SubmittedCommand, HeldIsSafe, SubmittedIsSafe, Submits, array_if, array_with}
use Rattle.oram_rounds.specs.Process.{IsKept, Process}
use Rattle.oram_rounds.specs.Rounds.{Round, waiting}
use Rattle.oram_rounds.specs.Service.{IsServed, WillHold, WillHoldAfter, after_all}
use Rattle.oram_rounds.proofs.Steps.{step_quiet}

-- the host receives nothing when a command is submitted
submit_honest : (now : Status) (last : List ℕ) (session : ℕ) (c : Command) (words : List ℕ) (host : Host) → IsHonest now last (Submit session c words) host host
submit_honest Idle last session c words host = refl
submit_honest Waiting last session c words host = refl
submit_honest Stalling last session c words host = refl
submit_honest Over last session c words host = refl

-- one more command at the end of a queue
after_one_more : (d : Sizes) (queue : List Submission) (y : Submission) (array : ℕ → List ℕ) → after_all d (queue ++ y ∷ []) array ≡ array_after d y.command (after_all d queue array)
after_one_more d [] y array = refl
after_one_more d (x ∷ queue) y array = after_one_more d queue y (array_after d x.command array)

-- neither replies nor fails the device, and the queue becomes what the note says
record IsTakenIn (v : Scheme) (s : State) (c : Command) (d : Did) : Type 0 where
  replies : d.replies ≡ []
  failure : d.state.failure ≡ s.failure
  queue : (array : ℕ → List ℕ) → after_all v.device d.state.queue array ≡ array_if d.note v.device c (after_all v.device s.queue array)

taken_in : (v : Scheme) (s : State) (y : Submission) (refusal : Option Refusal) → IsTakenIn v s y.command (submitted_by v s y refusal)
taken_in v s y (Some e) = record { replies = refl; failure = refl; queue = λ array. refl }
taken_in v s y None = record { replies = refl; failure = refl; queue = λ array. after_one_more v.device s.queue y array }

module _ (may_lie : Bool) (v : Scheme) (device : IsDevice v.device) where
  -- what a core will hold once a command was submitted to it
  will_hold : (s t : State) (a : SubmittedCommand) (host : Host) (array : ℕ → List ℕ) → Steps v s (Submit a.session a.command a.words) a.shown t → WillHold may_lie v s host array
      → WillHold may_lie v t host (array_if a.shown.note v.device a.command array)
  will_hold s t a host array step will =
      let y : Submission = record { session = a.session; ticket = s.next; command = a.command; words = a.words } in
      let refusal = refusal_of v.device (is_over (status_in s)) (length s.queue) s.next a.command a.words in
      let d : Did = submitted_by v s y refusal in
      let same : did a.shown t ≡ d = step.plain d refl in
      let is : IsTakenIn v s a.command d = taken_in v s y refusal in
      elim will [
        | inl held ↦
            let before : ℕ → List ℕ = held.0 in
            let served = step_quiet may_lie v device s t host host before a.shown held.1 (Submit a.session a.command a.words) d step
            (submit_honest (status_in s) s.message a.session a.command a.words host) refl is.replies in
            inl (
              before,
              served,
              ap (λ (e : Did). after_all v.device e.state.queue before) same ∙ is.queue before
                  ∙ ap (λ (n : Note). array_if n v.device a.command (after_all v.device s.queue before)) (sym (ap (λ (e : Did). e.note) same))
                  ∙ ap (array_if a.shown.note v.device a.command) held.2,
            )
        | inr failed ↦ inr (failed.0, (failed.1.0, ap (λ (e : Did). e.state.failure) same ∙ is.failure ∙ failed.1.1))
      ]

  -- a core that serves its trees still serves them once a command was submitted
  pub served_submitted : (s t : State) (a : SubmittedCommand) (host : Host) (array : ℕ → List ℕ) → Steps v s (Submit a.session a.command a.words) a.shown t → IsServed v s host array
      → IsServed v t host array
  served_submitted s t a host array step served =
      let y : Submission = record { session = a.session; ticket = s.next; command = a.command; words = a.words } in
      let refusal = refusal_of v.device (is_over (status_in s)) (length s.queue) s.next a.command a.words in
      step_quiet may_lie v device s t host host array a.shown served (Submit a.session a.command a.words) (submitted_by v s y refusal) step
      (submit_honest (status_in s) s.message a.session a.command a.words host) refl (taken_in v s y refusal).replies

  module _ {B K : Type 0} where
    -- once commands were submitted, one after the other
    all_submitted : (submitted : List SubmittedCommand) (p q : Process B K) (host : Host) (array : ℕ → List ℕ) → FoldsTo {P = Process B K} (Submits v) p submitted q
        → WillHoldAfter may_lie v p.core (waiting p.link) host array
        → WillHoldAfter may_lie v q.core (waiting q.link) host (array_with v.device submitted array) × (q.link ≡ p.link) × (q.keeper ≡ p.keeper)
    all_submitted [] p q host array same live = (
      subst (λ (r : Process B K). WillHoldAfter may_lie v r.core (waiting r.link) host array) same live,
      sym (ap (λ (r : Process B K). r.link) same),
      sym (ap (λ (r : Process B K). r.keeper) same),
    )
    all_submitted (a ∷ submitted) p q host array all live =
        let mid : Process B K = all.0 in
        let now : ℕ → List ℕ = array_if a.shown.note v.device a.command array in
        let will : WillHoldAfter may_lie v mid.core (waiting p.link) host now = (live.0, live.1, will_hold p.core mid.core a live.0 array all.1.0 live.2) in
        let rest = all_submitted submitted mid q host now all.2 (subst (λ (l : Round B). WillHoldAfter may_lie v mid.core (waiting l) host now) (sym all.1.1) will) in
        (rest.0, rest.1 ∙ all.1.1, rest.2 ∙ all.1.2)

pub submitted_is_safe : (B : Type 0) {K : Type 0} (reads_back : K → List ℕ → Type 0) → SubmittedIsSafe B reads_back
submitted_is_safe B {K} reads_back may_lie v submitted p q host array device safe all =
    let done = all_submitted may_lie v device submitted p q host array all safe.live in
    record {
      device = ap (λ (l : Round B). l.device) done.1 ∙ safe.device;
      record_len_is = ap (λ (l : Round B). l.record_len) done.1 ∙ safe.record_len_is;
      live = done.0;
      kept = λ bytes back.
          let k : IsKept may_lie v p.link.kept bytes host array array = safe.kept bytes (subst (λ (j : K). reads_back j bytes) done.2 back) in
          record {
            stores = k.stores;
            core = k.core;
            file = k.file;
            covers = λ b among. k.covers b (subst (IsAmong b) (ap (λ (l : Round B). l.kept) done.1) among);
            holds = inl (elim k.holds [ inl old ↦ old | inr new ↦ new ]);
          };
      ahead = subst (λ (l : Round B). AreAhead may_lie v host l) (sym done.1) safe.ahead;
    }

-- no commands wait at a core that has no work and hasn't failed
resting_by : (q : List Submission) (l : Bool) → has_no_work_in (status_by None q l) ≡ true → q ≡ []
resting_by [] l e = refl
resting_by (x ∷ q) true e = absurd cc
resting_by (x ∷ q) false e = absurd cc

pub resting : (s : State) → HasNoWork s → s.failure ≡ None → s.queue ≡ []
resting s no_work alive = resting_by s.queue s.lost (sym (ap (λ (f : Option Reason). has_no_work_in (status_by f s.queue s.lost)) alive) ∙ no_work)

-- the host of a device that is held has nothing to catch up
pub held_goes_on : (v : Scheme) (core : State) (host : Host) (array : ℕ → List ℕ) → IsHeldBy v core host array → CatchesUp v host [] host × IsServed v core host array
held_goes_on v core host array held =
    let idle : core.queue ≡ [] = resting core held.no_work held.alive in
    let keeps : KeepsAll v held.world.records host = subst (HostsBy v core held.world host) idle held.hosts in (
      record { records = held.world.records; keeps = keeps; paths = tt; ahead = keeps },
      record { alive = held.alive; world = held.world; serving = held.serving; hosts = held.hosts },
    )

pub held_is_safe : (B : Type 0) {K : Type 0} (reads_back : K → List ℕ → Type 0) → HeldIsSafe B reads_back
held_is_safe B {K} reads_back may_lie v inner core keeper host array held files =
    let on = held_goes_on v core host array held in
    let idle : core.queue ≡ [] = resting core held.no_work held.alive in
    let will : WillHoldAfter may_lie v core [] host array = (host, on.0, inl (array, on.1, ap (λ (queue : List Submission). after_all v.device queue array) idle)) in
    record {
      device = refl;
      record_len_is = refl;
      live = will;
      kept = λ bytes back. record { stores = []; core = core; file = files bytes back; covers = λ b among. among; holds = inl will };
      ahead = inl refl;
    }
