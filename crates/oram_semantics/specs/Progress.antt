-- How far a run has come: what was accepted and sent, how many good answers came, and whether the device waits, stalls or has
-- failed.
use Rattle.std.specs.Prelude.{ℕ, ◌+◌, ◌*◌, ◌==◌, Bool, true, false, if◌then◌else◌, List, [], ◌∷◌, ◌++◌, length, reverse, Option, Some, None}
use Rattle.oram_geometry.specs.Sizes.{trees_of}
use Rattle.oram_trace.specs.declared.entries.Entry.{Entry}
use Rattle.oram_trace.specs.Tape.{entry}
use Rattle.oram_semantics.specs.Events.{addresses, tape}
use Rattle.oram_semantics.specs.Scheme.{Scheme}
use Rattle.oram_semantics.specs.Messages.{last_stored}
use Rattle.oram_semantics.specs.Answers.{Outcome, outcome_of}
use Rattle.oram_semantics.specs.Answers.Outcome.{Good, NoRoom, Fails}
use Rattle.oram_semantics.specs.declared.events.Event.{Event}
use Rattle.oram_semantics.specs.declared.events.Event.TheVariants.{Submit, Answer, Lost, Reopen, Retry}
use Rattle.oram_semantics.specs.declared.events.Reason.{Reason}
use Rattle.oram_semantics.specs.declared.events.Submission.{Submission}

-- the values that are fixed for a run: the scheme, and the messages of the formatting, the oldest first
pub record Setting : Type 0 where
  pub scheme : Scheme
  pub format : List (List ℕ)

-- an event that has happened, whether a command was accepted at it, and the messages sent at it
pub record Step : Type 0 where
  pub event : Event
  pub accepts : Bool
  pub sends : List (List ℕ)

-- the submission of an event, with this ticket
abbrev pub submission_of : ℕ → Event → List Submission
submission_of ticket (Submit s c w) = record { session = s; ticket = ticket; command = c; words = w } ∷ []
submission_of ticket (Answer b) = []
submission_of ticket Lost = []
submission_of ticket Reopen = []
submission_of ticket Retry = []

-- A past has its newest step first. These are its accepted submissions, the oldest first, with their tickets counted
-- from 0.
unfoldable pub accepted : List Step → List Submission
accepted [] = []
accepted (s ∷ past) = if s.accepts then accepted past ++ submission_of (length (accepted past)) s.event else accepted past

-- the messages sent since the formatting, the newest first
unfoldable pub sent : List Step → List (List ℕ)
sent [] = []
sent (s ∷ past) = s.sends ++ sent past

-- the record last stored at a node of a tree
abbrev pub records_of : Setting → List Step → ℕ → ℕ → List ℕ
records_of v past = last_stored v.scheme (sent past ++ reverse v.format)

pub data Status : Type 0 where
  Idle : Status
  Waiting : Status
  Stalling : Status
  Over : Status

-- the number of good answers so far, whether the outstanding message counts as lost, and the failure
pub record Progress : Type 0 where
  pub good : ℕ
  pub lost : Bool
  pub failure : Option Reason

-- the number of entries that the accepted submissions make
abbrev pub entries : Setting → List Step → ℕ
entries v past = 2 * trees_of v.scheme.device * length (accepted past)

-- entry m of the accepted submissions
abbrev pub entry_at : Setting → List Step → ℕ → Entry
entry_at v past m = entry v.scheme.device (addresses (accepted past)) (tape (accepted past)) m

unfoldable pub status_from : ℕ → Progress → Status
status_from all p = elim p.failure [ Some e ↦ Over | None ↦ if p.good == all then Idle else if p.lost then Stalling else Waiting ]

-- the progress after an answer, by the status before it and what the answer means
abbrev pub answered : Progress → Status → Outcome → Progress
answered p Waiting Good = record { good = p.good + 1; lost = false; failure = None }
answered p Waiting NoRoom = record { good = p.good; lost = true; failure = None }
answered p Waiting (Fails e) = record { good = p.good; lost = false; failure = Some e }
answered p Idle o = p
answered p Stalling o = p
answered p Over o = p

-- the progress after a lost message, by the status before it
abbrev pub after_loss : Progress → Status → Progress
after_loss p Waiting = record { good = p.good; lost = true; failure = None }
after_loss p Idle = p
after_loss p Stalling = p
after_loss p Over = p

-- the progress after a retry, by the status before it
abbrev pub after_retry : Progress → Status → Progress
after_retry p Stalling = record { good = p.good; lost = false; failure = None }
after_retry p Idle = p
after_retry p Waiting = p
after_retry p Over = p

-- the progress after an event, given what an answer means
abbrev pub advanced : Progress → Status → (List ℕ → Outcome) → Event → Progress
advanced p now meaning (Submit s c w) = p
advanced p now meaning (Answer bytes) = answered p now (meaning bytes)
advanced p now meaning Lost = after_loss p now
advanced p now meaning Reopen = after_loss p now
advanced p now meaning Retry = after_retry p now

-- what an answer to entry m means
abbrev pub meaning_at : Setting → List Step → ℕ → List ℕ → Outcome
meaning_at v past m bytes = outcome_of v.scheme (records_of v past) (entry_at v past m) bytes

unfoldable pub progress : Setting → List Step → Progress
progress v [] = record { good = 0; lost = false; failure = None }
progress v (s ∷ past) =
    advanced (progress v past) (status_from (entries v past) (progress v past)) (meaning_at v past (progress v past).good) s.event

abbrev pub status : Setting → List Step → Status
status v past = status_from (entries v past) (progress v past)
