-- One step by the local rule keeps a core in line with the past, and its reaction is right.
use Rattle.std.proofs.Common.{◌≡◌, ◌≢◌, ℕ, ◌+◌, ◌-◌, ◌*◌, ◌%◌, ◌<◌, ◌==◌, Bool, true, false, if◌then◌else◌, inl, inr, List, [], ◌∷◌, length, Option, Some, None, refl, ap, sym, ◌∙◌, subst, arith}
use Rattle.std.proofs.lemmas.Bool.Decides.{eqb_tells}
use Rattle.oram_geometry.specs.Sizes.{trees_of}
use Rattle.oram_trace.specs.declared.entries.Entry.{Entry}
use Rattle.oram_semantics.specs.Messages.{requested}
use Rattle.oram_semantics.specs.Answers.{Outcome, outcome_of}
use Rattle.oram_semantics.specs.Answers.Outcome.{Good, NoRoom, Fails}
use Rattle.oram_semantics.specs.Progress.{Setting, Step, Status, accepted, records_of, progress, status, meaning_at, after_loss}
use Rattle.oram_semantics.specs.Progress.Status.{Waiting}
use Rattle.oram_semantics.specs.Run.{refusal_of, submit_note, loss_note, is_over, note_of, answered_tickets, Shown, step_of}
use Rattle.oram_semantics.specs.State.{State, AllStand, status_by}
use Rattle.oram_semantics.specs.Moves.{MovesTo, Moves, stores, fetches, finishes, goes_on, on_answer, on_loss, on_retry, on_submission}
use Rattle.oram_semantics.specs.declared.events.Command.{Command}
use Rattle.oram_semantics.specs.declared.events.Event.{Event}
use Rattle.oram_semantics.specs.declared.events.Event.TheVariants.{Submit, Answer, Lost, Reopen, Retry}
use Rattle.oram_semantics.specs.declared.events.Reason.{Reason}
use Rattle.oram_semantics.specs.declared.events.Refusal.{Refusal}
use Rattle.oram_semantics.specs.declared.events.Note.TheVariants.{Refused, Taken, Stalled, Unexpected}
use Rattle.oram_semantics.specs.declared.events.Submission.{Submission}
use Rattle.oram_semantics.specs.Law.{world_of}
use Rattle.oram_semantics.proofs.Bounds.{IsFit}
use Rattle.oram_semantics.proofs.Follows.{Working, AtWork, Live, FollowsAt, Follows, stage_few}
use Rattle.oram_semantics.proofs.Counts.{progress_cons, accepted_len, status_is, status_ends, answered_is}
use Rattle.oram_semantics.proofs.Keeps.{Kept, quiet_keep, stays_keep, resends_keep, fails_keep, requested_now}
use Rattle.oram_semantics.proofs.Answered.{stores_keep, fetches_keep, finishes_keep}
use Rattle.oram_semantics.proofs.Submitted.{passed, accepts_keep}

status_past : (v : Setting) (past : List Step) (s : State) (old : List Submission) (failure : Option Reason)
    → s.failure ≡ failure → IsFit v.scheme.device → FollowsAt v past old s failure
    → status v past ≡ status_by failure s.queue s.lost
status_past v past s old (Some e) h fit f = status_ends v past e f.failed
status_past v past s old None h fit f =
    status_is v past old s fit f.0 h ∙ ap (λ (o : Option Reason). status_by o s.queue s.lost) h

good_keep : (v : Setting) (past : List Step) (s t : State) (old rest : List Submission) (x : Shown) (y : Submission)
    (bytes : List ℕ) → IsFit v.scheme.device → Live v past old s → s.failure ≡ None → s.queue ≡ y ∷ rest
    → Working v past old s y → s.lost ≡ false
    → MovesTo v.scheme s (world_of v past) (goes_on v.scheme s (world_of v past) (y ∷ rest)) x t
    → Taken ≡ note_of v past (Answer bytes)
    → progress v (step_of (Answer bytes) x ∷ past) ≡ record { good = (progress v past).good + 1; lost = false; failure = None }
    → Kept v past (Answer bytes) x t
good_keep v past s t old rest x y bytes fit l healthy qu w calm mv is p =
    let d = v.scheme.device in
    let world = world_of v past in
    let few : s.entry_number < 2 * trees_of d = w.entry_number in
    elim (eqb_tells (s.entry_number % 2) 0) [
      | inl even ↦ stores_keep v past s t old rest x y bytes fit l healthy qu w calm even.1
          (subst (λ (b : Bool). MovesTo v.scheme s world (if b then stores v.scheme s world y else if s.entry_number + 1 == 2 * trees_of d then finishes v.scheme s world y rest else fetches v.scheme s world y) x t) even.0 mv) is p
      | inr odd ↦
          let mv' : MovesTo v.scheme s world (if s.entry_number + 1 == 2 * trees_of d then finishes v.scheme s world y rest else fetches v.scheme s world y) x t =
          subst (λ (b : Bool). MovesTo v.scheme s world (if b then stores v.scheme s world y else if s.entry_number + 1 == 2 * trees_of d then finishes v.scheme s world y rest else fetches v.scheme s world y) x t) odd.0 mv in
          let one : s.entry_number % 2 ≡ 1 = let ne : s.entry_number % 2 ≢ 0 = odd.1 in omega arith in
          elim (eqb_tells (s.entry_number + 1) (2 * trees_of d)) [
            | inl last ↦ finishes_keep v past s t old rest x y bytes fit l healthy qu w calm last.1 (subst (λ (b : Bool). MovesTo v.scheme s world (if b then finishes v.scheme s world y rest else fetches v.scheme s world y) x t) last.0 mv') is p
            | inr more ↦
                let ne : s.entry_number + 1 ≢ 2 * trees_of d = more.1 in
                fetches_keep v past s t old rest x y bytes fit l healthy qu w calm one (omega arith) (subst (λ (b : Bool). MovesTo v.scheme s world (if b then finishes v.scheme s world y rest else fetches v.scheme s world y) x t) more.0 mv') is p
          ]
    ]

outcome_keep : (v : Setting) (past : List Step) (s t : State) (old rest : List Submission) (x : Shown) (y : Submission)
    (bytes : List ℕ) (o : Outcome) → IsFit v.scheme.device → Live v past old s → AllStand v.scheme s (world_of v past)
    → s.failure ≡ None → s.queue ≡ y ∷ rest → Working v past old s y → s.lost ≡ false → status v past ≡ Waiting
    → meaning_at v past (progress v past).good bytes ≡ o
    → MovesTo v.scheme s (world_of v past) (on_answer v.scheme s (world_of v past) Waiting o) x t
    → Kept v past (Answer bytes) x t
outcome_keep v past s t old rest x y bytes Good fit l holds healthy qu w calm waits means mv =
    good_keep v past s t old rest x y bytes fit l healthy qu w calm (subst (λ (q : List Submission). MovesTo v.scheme s (world_of v past) (goes_on v.scheme s (world_of v past) q) x t) qu mv)
    (rw (waits, means) refl) (progress_cons v (step_of (Answer bytes) x) past ∙ rw (waits, means) refl)
outcome_keep v past s t old rest x y bytes NoRoom fit l holds healthy qu w calm waits means mv =
    quiet_keep v past s t old (Answer bytes) x Stalled true fit l healthy holds mv refl refl refl (rw (waits, means) refl) (progress_cons v (step_of (Answer bytes) x) past ∙ rw (waits, means) refl) (λ e. absurd (let long : length s.queue ≡ length rest + 1 = ap length qu ∙ omega arith in omega arith))
outcome_keep v past s t old rest x y bytes (Fails e) fit l holds healthy qu w calm waits means mv =
    fails_keep v past s t old x bytes e fit l w.entry_number mv (rw (waits, means) refl) (progress_cons v (step_of (Answer bytes) x) past ∙ rw (waits, means) refl)

answer_keep : (v : Setting) (past : List Step) (s t : State) (old : List Submission) (x : Shown) (bytes : List ℕ)
    (failure : Option Reason) (queue : List Submission) (lost : Bool) → s.failure ≡ failure → s.queue ≡ queue
    → s.lost ≡ lost → IsFit v.scheme.device → FollowsAt v past old s failure → status v past ≡ status_by failure queue lost
    → MovesTo v.scheme s (world_of v past) (on_answer v.scheme s (world_of v past) (status_by failure queue lost) (outcome_of v.scheme (records_of v past) (requested s.message) bytes)) x t
    → Kept v past (Answer bytes) x t
answer_keep v past s t old x bytes (Some e) queue lost h qu lo fit f st mv =
    stays_keep v past s t old (Answer bytes) x Unexpected (Some e) h fit f mv refl refl refl (rw st refl) (progress_cons v (step_of (Answer bytes) x) past ∙ rw st refl)
answer_keep v past s t old x bytes None [] lost h qu lo fit f st mv =
    stays_keep v past s t old (Answer bytes) x Unexpected None h fit f mv refl refl refl (rw st refl) (progress_cons v (step_of (Answer bytes) x) past ∙ rw st refl)
answer_keep v past s t old x bytes None (y ∷ rest) true h qu lo fit f st mv =
    stays_keep v past s t old (Answer bytes) x Unexpected None h fit f mv refl refl refl (rw st refl) (progress_cons v (step_of (Answer bytes) x) past ∙ rw st refl)
answer_keep v past s t old x bytes None (y ∷ rest) false h qu lo fit f st mv =
    let w : Working v past old s y = subst (AtWork v past old s) qu f.0.work in
    outcome_keep v past s t old rest x y bytes (outcome_of v.scheme (records_of v past) (requested s.message) bytes) fit f.0 f.1 h qu w lo st (ap (λ (e : Entry). outcome_of v.scheme (records_of v past) e bytes) (sym (requested_now v past old rest s y f.0 qu w))) mv

-- by an event that means a loss
loss_keep : (v : Setting) (past : List Step) (s t : State) (old : List Submission) (event : Event) (x : Shown) (failure : Option Reason)
    (queue : List Submission) (lost : Bool) → note_of v past event ≡ loss_note (status v past)
    → progress v (step_of event x ∷ past) ≡ after_loss (progress v past) (status v past) → s.failure ≡ failure → s.queue ≡ queue → s.lost ≡ lost → IsFit v.scheme.device
    → FollowsAt v past old s failure → status v past ≡ status_by failure queue lost
    → MovesTo v.scheme s (world_of v past) (on_loss s (world_of v past) (status_by failure queue lost)) x t
    → Kept v past event x t
loss_keep v past s t old event x (Some e) queue lost noted gone h qu lo fit f st mv =
    stays_keep v past s t old event x Unexpected (Some e) h fit f mv refl refl refl (rw st refl ∙ sym noted) (gone ∙ rw st refl)
loss_keep v past s t old event x None [] lost noted gone h qu lo fit f st mv =
    stays_keep v past s t old event x Unexpected None h fit f mv refl refl refl (rw st refl ∙ sym noted) (gone ∙ rw st refl)
loss_keep v past s t old event x None (y ∷ rest) true noted gone h qu lo fit f st mv =
    stays_keep v past s t old event x Unexpected None h fit f mv refl refl refl (rw st refl ∙ sym noted) (gone ∙ rw st refl)
loss_keep v past s t old event x None (y ∷ rest) false noted gone h qu lo fit f st mv =
    quiet_keep v past s t old event x Stalled true fit f.0 h f.1 mv refl refl refl (rw st refl ∙ sym noted) (gone ∙ rw st refl) (λ e. absurd (let long : length s.queue ≡ length rest + 1 = ap length qu ∙ omega arith in omega arith))

retry_keep : (v : Setting) (past : List Step) (s t : State) (old : List Submission) (x : Shown) (failure : Option Reason)
    (queue : List Submission) (lost : Bool) → s.failure ≡ failure → s.queue ≡ queue → s.lost ≡ lost → IsFit v.scheme.device
    → FollowsAt v past old s failure → status v past ≡ status_by failure queue lost
    → MovesTo v.scheme s (world_of v past) (on_retry s (world_of v past) (status_by failure queue lost)) x t
    → Kept v past Retry x t
retry_keep v past s t old x (Some e) queue lost h qu lo fit f st mv =
    stays_keep v past s t old Retry x Unexpected (Some e) h fit f mv refl refl refl (rw st refl) (progress_cons v (step_of Retry x) past ∙ rw st refl)
retry_keep v past s t old x None [] lost h qu lo fit f st mv =
    stays_keep v past s t old Retry x Unexpected None h fit f mv refl refl refl (rw st refl) (progress_cons v (step_of Retry x) past ∙ rw st refl)
retry_keep v past s t old x None (y ∷ rest) false h qu lo fit f st mv =
    stays_keep v past s t old Retry x Unexpected None h fit f mv refl refl refl (rw st refl) (progress_cons v (step_of Retry x) past ∙ rw st refl)
retry_keep v past s t old x None (y ∷ rest) true h qu lo fit f st mv =
    resends_keep v past s t old x y rest fit f.0 h qu (subst (AtWork v past old s) qu f.0.work) mv (rw st refl) (progress_cons v (step_of Retry x) past ∙ rw st refl)

-- the core's refusal is the past's
refusal_same : (v : Setting) (past : List Step) (s : State) (old : List Submission) (c : Command) (words : List ℕ)
    (failure : Option Reason) → s.failure ≡ failure → IsFit v.scheme.device → FollowsAt v past old s failure
    → submit_note s.next (refusal_of v.scheme.device (is_over (status_by failure s.queue s.lost)) (length s.queue) s.next c words)
    ≡ submit_note (length (accepted past)) (refusal_of v.scheme.device (is_over (status v past)) (length (accepted past) - answered_tickets v past) (length (accepted past)) c words)
refusal_same v past s old c words (Some e) h fit f = rw (status_ends v past e f.failed) refl
refusal_same v past s old c words None h fit f =
    let d = v.scheme.device in
    let l = f.0 in
    let few : s.entry_number < 2 * trees_of d = (stage_few v past old s s.queue fit l.work).0 in
    let len : length (accepted past) ≡ length old + length s.queue = accepted_len past old s.queue l.split in
    let count : s.next ≡ length (accepted past) = l.next ∙ sym len in
    let tickets : answered_tickets v past ≡ length old = answered_is v past (length old) s.entry_number l.good few in
    let left : length s.queue ≡ length (accepted past) - answered_tickets v past = omega arith in
    ap (λ (k : Status). submit_note s.next (refusal_of d (is_over k) (length s.queue) s.next c words)) (sym (status_past v past s old None h fit f))
    ∙ ap (λ (k : ℕ). submit_note s.next (refusal_of d (is_over (status v past)) k s.next c words)) left
    ∙ ap (λ (k : ℕ). submit_note k (refusal_of d (is_over (status v past)) (length (accepted past) - answered_tickets v past) k c words)) count

submit_keep : (v : Setting) (past : List Step) (s t : State) (old : List Submission) (x : Shown) (session : ℕ) (c : Command)
    (words : List ℕ) (failure : Option Reason) (o : Option Refusal) → s.failure ≡ failure → IsFit v.scheme.device
    → FollowsAt v past old s failure
    → o ≡ refusal_of v.scheme.device (is_over (status_by failure s.queue s.lost)) (length s.queue) s.next c words
    → MovesTo v.scheme s (world_of v past) (on_submission v.scheme s (world_of v past) (record { session = session; ticket = s.next; command = c; words = words }) o) x t
    → Kept v past (Submit session c words) x t
submit_keep v past s t old x session c words failure (Some e) h fit f r mv =
    stays_keep v past s t old (Submit session c words) x (Refused e) failure h fit f mv refl refl refl (ap (submit_note s.next) r ∙ refusal_same v past s old c words failure h fit f) (progress_cons v (step_of (Submit session c words) x) past)
submit_keep v past s t old x session c words (Some e) None h fit f r mv =
    absurd (let no_way : true ≡ false = (passed v.scheme.device true (length s.queue) s.next c words (sym r)).0 in cc)
submit_keep v past s t old x session c words None None h fit f r mv =
    let ok = passed v.scheme.device (is_over (status_by None s.queue s.lost)) (length s.queue) s.next c words (sym r) in
    accepts_keep v past s t old x session c words fit f.0 h ok.1 ok.3 mv (ap (submit_note s.next) r ∙ refusal_same v past s old c words None h fit f)

keeps_at : (v : Setting) (past : List Step) (s t : State) (old : List Submission) (event : Event) (x : Shown)
    → IsFit v.scheme.device → FollowsAt v past old s s.failure → Moves v.scheme s (world_of v past) event x t
    → Kept v past event x t
keeps_at v past s t old (Submit session c words) x fit f mv =
    submit_keep v past s t old x session c words s.failure (refusal_of v.scheme.device (is_over (status_by s.failure s.queue s.lost)) (length s.queue) s.next c words) refl fit f refl mv
keeps_at v past s t old (Answer bytes) x fit f mv =
    answer_keep v past s t old x bytes s.failure s.queue s.lost refl refl refl fit f (status_past v past s old s.failure refl fit f) mv
keeps_at v past s t old Lost x fit f mv =
    loss_keep v past s t old Lost x s.failure s.queue s.lost refl (progress_cons v (step_of Lost x) past) refl refl refl fit f (status_past v past s old s.failure refl fit f) mv
keeps_at v past s t old Reopen x fit f mv =
    loss_keep v past s t old Reopen x s.failure s.queue s.lost refl (progress_cons v (step_of Reopen x) past) refl refl refl fit f (status_past v past s old s.failure refl fit f) mv
keeps_at v past s t old Retry x fit f mv =
    retry_keep v past s t old x s.failure s.queue s.lost refl refl refl fit f (status_past v past s old s.failure refl fit f) mv

-- The local rule, at the world of the past, gives a right reaction and a core that follows the longer past.
pub keeps : (v : Setting) (past : List Step) (s t : State) (event : Event) (x : Shown) → IsFit v.scheme.device
    → Follows v past s → Moves v.scheme s (world_of v past) event x t → Kept v past event x t
keeps v past s t event x fit f mv = keeps_at v past s t f.old event x fit f.follows mv
