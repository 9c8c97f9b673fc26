-- What a note says about the past after it: whether a good answer came, and whether a command was accepted.
use Rattle.std.proofs.Common.{◌≡◌, ℕ, ◌+◌, ◌*◌, Bool, true, false, if◌then◌else◌, List, [], ◌∷◌, ◌++◌, length, Option, Some, None, refl, ap, sym, ◌∙◌, arith, append-nil}
use Rattle.oram_geometry.specs.Sizes.{trees_of}
use Rattle.oram_semantics.specs.Events.{tape}
use Rattle.oram_semantics.specs.Answers.{Outcome}
use Rattle.oram_semantics.specs.Answers.Outcome.{Good, NoRoom, Fails}
use Rattle.oram_semantics.specs.Progress.{Setting, Step, Progress, Status, accepted, progress, status, answered, after_loss, after_retry, meaning_at, submission_of, advanced}
use Rattle.oram_semantics.specs.Progress.Status.{Idle, Waiting, Stalling, Over}
use Rattle.oram_semantics.specs.Run.{Shown, step_of, note_of, answer_note, loss_note, retry_note, submit_note, refusal_of, is_accepted, is_over}
use Rattle.oram_semantics.specs.declared.events.Command.{Command}
use Rattle.oram_semantics.specs.declared.events.Event.{Event}
use Rattle.oram_semantics.specs.declared.events.Event.TheVariants.{Submit, Answer, Lost, Reopen, Retry}
use Rattle.oram_semantics.specs.declared.events.Note.{Note}
use Rattle.oram_semantics.specs.declared.events.Note.TheVariants.{Accepted, Refused, Taken, Stalled, FailedNow, Resent, Unexpected}
use Rattle.oram_semantics.specs.declared.events.Refusal.{Refusal}
use Rattle.oram_semantics.specs.declared.events.Submission.{Submission}
use Rattle.oram_semantics.proofs.Counts.{progress_cons, accepted_cons}
use Rattle.oram_semantics.proofs.Submitted.{passed}

-- the number of good answers that a note reports
abbrev pub takes : Note → ℕ
takes Taken = 1
takes (Accepted t) = 0
takes (Refused e) = 0
takes Stalled = 0
takes (FailedNow e) = 0
takes Resent = 0
takes Unexpected = 0

takes_answer : (p : Progress) (now : Status) (o : Outcome) → (answered p now o).good ≡ p.good + takes (answer_note now o)
takes_answer p Waiting Good = refl
takes_answer p Waiting NoRoom = omega arith
takes_answer p Waiting (Fails e) = omega arith
takes_answer p Idle o = omega arith
takes_answer p Stalling o = omega arith
takes_answer p Over o = omega arith

takes_loss : (p : Progress) (now : Status) → (after_loss p now).good ≡ p.good + takes (loss_note now)
takes_loss p Waiting = omega arith
takes_loss p Idle = omega arith
takes_loss p Stalling = omega arith
takes_loss p Over = omega arith

takes_retry : (p : Progress) (now : Status) → (after_retry p now).good ≡ p.good + takes (retry_note now)
takes_retry p Waiting = omega arith
takes_retry p Idle = omega arith
takes_retry p Stalling = omega arith
takes_retry p Over = omega arith

takes_submit : (g n : ℕ) (o : Option Refusal) → g ≡ g + takes (submit_note n o)
takes_submit g n None = omega arith
takes_submit g n (Some e) = omega arith

takes_by : (v : Setting) (past : List Step) (event : Event)
    → (advanced (progress v past) (status v past) (meaning_at v past (progress v past).good) event).good ≡ (progress v past).good + takes (note_of v past event)
takes_by v past (Submit s c w) =
    takes_submit (progress v past).good (length (accepted past)) (refusal_of v.scheme.device (is_over (status v past)) _ (length (accepted past)) c w)
takes_by v past (Answer bytes) = takes_answer (progress v past) (status v past) (meaning_at v past (progress v past).good bytes)
takes_by v past Lost = takes_loss (progress v past) (status v past)
takes_by v past Reopen = takes_loss (progress v past) (status v past)
takes_by v past Retry = takes_retry (progress v past) (status v past)

-- a right note says whether a good answer came
pub good_rises : (v : Setting) (past : List Step) (event : Event) (x : Shown) → x.note ≡ note_of v past event
    → (progress v (step_of event x ∷ past)).good ≡ (progress v past).good + takes x.note
good_rises v past event x note =
    ap (λ (p : Progress). p.good) (progress_cons v (step_of event x) past) ∙ takes_by v past event
    ∙ ap (λ (n : Note). (progress v past).good + takes n) (sym note)

-- the number of accepted commands that a note reports
abbrev pub brings : Note → ℕ
brings note = if is_accepted note then 1 else 0

-- a step adds these commands, each with as many words as the device requires
pub record Adds (v : Setting) (past : List Step) (step : Step) (n : ℕ) : Type 0 where
  pub more : List Submission
  pub accepted_is : accepted (step ∷ past) ≡ accepted past ++ more
  pub count : length more ≡ n
  pub words : length (tape more) ≡ 2 * trees_of v.scheme.device * n

adds_none : (v : Setting) (past : List Step) (event : Event) (x : Shown) → is_accepted x.note ≡ false
    → Adds v past (step_of event x) (brings x.note)
adds_none v past event x none = record {
  more = [];
  accepted_is = accepted_cons (step_of event x) past
      ∙ ap (λ (b : Bool). if b then accepted past ++ submission_of (length (accepted past)) event else accepted past) none
      ∙ sym (append-nil (accepted past));
  count = sym (ap (λ (b : Bool). if b then 1 else 0) none);
  words = rw none (omega arith);
}

adds_submit : (v : Setting) (past : List Step) (s : ℕ) (c : Command) (words : List ℕ) (x : Shown) (over : Bool) (waiting n : ℕ) (o : Option Refusal)
    → refusal_of v.scheme.device over waiting n c words ≡ o → x.note ≡ submit_note n o
    → Adds v past (step_of (Submit s c words) x) (brings x.note)
adds_submit v past s c words x over waiting n (Some e) is note = adds_none v past (Submit s c words) x (ap is_accepted note)
adds_submit v past s c words x over waiting n None is note =
    let yes_is : is_accepted x.note ≡ true = ap is_accepted note in
    let len : length words ≡ 2 * trees_of v.scheme.device = (passed v.scheme.device over waiting n c words is).3 in
    record {
      more = submission_of (length (accepted past)) (Submit s c words);
      accepted_is = accepted_cons (step_of (Submit s c words) x) past
          ∙ ap (λ (b : Bool). if b then accepted past ++ submission_of (length (accepted past)) (Submit s c words) else accepted past) yes_is;
      count = sym (ap (λ (b : Bool). if b then 1 else 0) yes_is);
      words = rw yes_is (ap length (append-nil words) ∙ len ∙ omega arith);
    }

no_answer : (now : Status) (o : Outcome) → is_accepted (answer_note now o) ≡ false
no_answer Waiting Good = refl
no_answer Waiting NoRoom = refl
no_answer Waiting (Fails e) = refl
no_answer Idle o = refl
no_answer Stalling o = refl
no_answer Over o = refl

no_loss : (now : Status) → is_accepted (loss_note now) ≡ false
no_loss Waiting = refl
no_loss Idle = refl
no_loss Stalling = refl
no_loss Over = refl

no_retry : (now : Status) → is_accepted (retry_note now) ≡ false
no_retry Waiting = refl
no_retry Idle = refl
no_retry Stalling = refl
no_retry Over = refl

-- a right note says whether a command was accepted
pub adds : (v : Setting) (past : List Step) (event : Event) (x : Shown) → x.note ≡ note_of v past event
    → Adds v past (step_of event x) (brings x.note)
adds v past (Submit s c words) x note =
    let n : ℕ = length (accepted past) in
    adds_submit v past s c words x (is_over (status v past)) _ n (refusal_of v.scheme.device (is_over (status v past)) _ n c words) refl note
adds v past (Answer bytes) x note =
    adds_none v past (Answer bytes) x (ap is_accepted note ∙ no_answer (status v past) (meaning_at v past (progress v past).good bytes))
adds v past Lost x note = adds_none v past Lost x (ap is_accepted note ∙ no_loss (status v past))
adds v past Reopen x note = adds_none v past Reopen x (ap is_accepted note ∙ no_loss (status v past))
adds v past Retry x note = adds_none v past Retry x (ap is_accepted note ∙ no_retry (status v past))
