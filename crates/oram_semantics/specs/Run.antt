-- The reactions that are right in a run.
use Rattle.std.specs.Prelude.{◌≡◌, ℕ, ◌+◌, ◌-◌, ◌*◌, ◌/◌, ◌==◌, ◌&&◌, not, Bool, true, false, if◌then◌else◌, List, [], ◌∷◌, ◌++◌, length, take, drop, slice_range, Option, Some, None, min, nat_le, map}
use Rattle.std.specs.List.{range_with_len, All}
use Rattle.oram_geometry.specs.declared.Sizes.{Sizes}
use Rattle.oram_geometry.specs.Sizes.{trees_of}
use Rattle.oram_semantics.specs.Events.{address_of, reply_of, failed_reply}
use Rattle.oram_semantics.specs.Messages.{IsMessage, requested, is_store}
use Rattle.oram_semantics.specs.Answers.{Outcome, pair_in}
use Rattle.oram_semantics.specs.Answers.Outcome.{Good, NoRoom, Fails}
use Rattle.oram_semantics.specs.Progress.{Setting, Step, Status, accepted, sent, records_of, entries, entry_at, progress, status, meaning_at}
use Rattle.oram_semantics.specs.Progress.Status.{Idle, Waiting, Stalling, Over}
use Rattle.oram_semantics.specs.Content.{content_of}
use Rattle.oram_semantics.specs.Nonces.{store_nonce}
use Rattle.oram_semantics.specs.Trees.{IsPlaced}
use Rattle.oram_semantics.specs.declared.events.Command.{Command}
use Rattle.oram_semantics.specs.declared.events.Command.TheVariants.{Read, Write, Discard}
use Rattle.oram_semantics.specs.declared.events.Event.{Event}
use Rattle.oram_semantics.specs.declared.events.Event.TheVariants.{Submit, Answer, Lost, Reopen, Retry}
use Rattle.oram_semantics.specs.declared.events.Reason.{Reason}
use Rattle.oram_semantics.specs.declared.events.Refusal.{Refusal}
use Rattle.oram_semantics.specs.declared.events.Refusal.TheVariants as refusal
use Rattle.oram_semantics.specs.declared.events.Note.{Note}
use Rattle.oram_semantics.specs.declared.events.Note.TheVariants.{Accepted, Refused, Taken, Stalled, FailedNow, Resent, Unexpected}
use Rattle.oram_semantics.specs.declared.events.Reply.{Reply}
use Rattle.oram_semantics.specs.declared.events.Reaction.{Reaction}

-- whether a command's data isn't as long as a block
abbrev pub has_bad_length : Sizes → Command → Bool
has_bad_length d (Read a) = false
has_bad_length d (Write a bytes) = not (length bytes == d.block_bytes)
has_bad_length d (Discard a) = false

-- the first reason to refuse a submission, if `taken` commands were accepted and `waiting` of them wait for a reply
abbrev pub refusal_of : Sizes → Bool → ℕ → ℕ → Command → List ℕ → Option Refusal
refusal_of d has_failed waiting taken c words =
    if has_failed then Some refusal.Failed
    else if nat_le d.blocks (address_of c) then Some refusal.BadAddress
    else if has_bad_length d c then Some refusal.BadLength
    else if not (length words == 2 * trees_of d) then Some refusal.BadWords
    else if nat_le 64 waiting then Some refusal.Busy
    else if nat_le d.lifetime taken then Some refusal.Exhausted
    else None

abbrev pub submit_note : ℕ → Option Refusal → Note
submit_note ticket None = Accepted ticket
submit_note ticket (Some e) = Refused e

-- the note on an answer, by the status before it and what the answer means
abbrev pub answer_note : Status → Outcome → Note
answer_note Waiting Good = Taken
answer_note Waiting NoRoom = Stalled
answer_note Waiting (Fails e) = FailedNow e
answer_note Idle o = Unexpected
answer_note Stalling o = Unexpected
answer_note Over o = Unexpected

-- the note on a lost message, by the status before it
abbrev pub loss_note : Status → Note
loss_note Waiting = Stalled
loss_note Idle = Unexpected
loss_note Stalling = Unexpected
loss_note Over = Unexpected

-- the note on a retry, by the status before it
abbrev pub retry_note : Status → Note
retry_note Stalling = Resent
retry_note Idle = Unexpected
retry_note Waiting = Unexpected
retry_note Over = Unexpected

-- whether the device has failed
abbrev pub is_over : Status → Bool
is_over Over = true
is_over Idle = false
is_over Waiting = false
is_over Stalling = false

-- whether the core waits for an answer
abbrev pub is_waiting : Status → Bool
is_waiting Waiting = true
is_waiting Idle = false
is_waiting Stalling = false
is_waiting Over = false

-- the number of tickets whose last STORE has had a good answer
abbrev pub answered_tickets : Setting → List Step → ℕ
answered_tickets v past = (progress v past).good / (2 * trees_of v.scheme.device)

abbrev pub waiting_by : Option Reason → ℕ → ℕ
waiting_by None n = n
waiting_by (Some e) n = 0

-- the number of accepted commands without a reply; after a failure each has one
abbrev pub without_reply : Setting → List Step → ℕ
without_reply v past = waiting_by (progress v past).failure (length (accepted past) - answered_tickets v past)

-- the note that an event calls for
abbrev pub note_of : Setting → List Step → Event → Note
note_of v past (Submit s c w) =
    let n = length (accepted past) in
    submit_note n (refusal_of v.scheme.device (is_over (status v past)) (n - answered_tickets v past) n c w)
note_of v past (Answer bytes) = answer_note (status v past) (meaning_at v past (progress v past).good bytes)
note_of v past Lost = loss_note (status v past)
note_of v past Reopen = loss_note (status v past)
note_of v past Retry = retry_note (status v past)

-- whether the note says that a submission was accepted
abbrev pub is_accepted : Note → Bool
is_accepted (Accepted t) = true
is_accepted (Refused e) = false
is_accepted Taken = false
is_accepted Stalled = false
is_accepted (FailedNow e) = false
is_accepted Resent = false
is_accepted Unexpected = false

-- whether the note says that the device fails with this event
abbrev pub fails_now : Note → Bool
fails_now (FailedNow e) = true
fails_now (Accepted t) = false
fails_now (Refused e) = false
fails_now Taken = false
fails_now Stalled = false
fails_now Resent = false
fails_now Unexpected = false

-- whether the note says that the outstanding message was sent again
abbrev pub is_resent : Note → Bool
is_resent Resent = true
is_resent (Accepted t) = false
is_resent (Refused e) = false
is_resent Taken = false
is_resent Stalled = false
is_resent (FailedNow e) = false
is_resent Unexpected = false

-- the replies at a step: the plain array's to each ticket that is answered at it; at a failure, Failed to each command
-- that waits
abbrev pub replies_at : Setting → List Step → Step → Note → List Reply
replies_at v past step note =
    let subs = accepted past in
    map (reply_of v.scheme.device subs) (slice_range subs (answered_tickets v past) (answered_tickets v (step ∷ past)))
    ++ (if fails_now note then map failed_reply (drop (answered_tickets v past) subs) else [])

-- the number of entries that were sent
abbrev pub entries_sent : Setting → List Step → ℕ
entries_sent v past = min ((progress v past).good + 1) (entries v past)

-- the numbers from m up to n, without n
abbrev pub from_to : ℕ → ℕ → List ℕ
from_to m n = range_with_len m (n - m)

-- the messages ask for these entries, one message for each
abbrev pub AskFor : Setting → List Step → List ℕ → List (List ℕ) → Type 0
AskFor v past [] [] = Unit {0}
AskFor v past (m ∷ ms) (x ∷ xs) = IsMessage v.scheme (entry_at v past m) x × AskFor v past ms xs
AskFor v past [] (x ∷ xs) = ⊥
AskFor v past (m ∷ ms) [] = ⊥

-- the messages at a step: one for each entry that is sent at it; if a message is sent again, only the last one
abbrev pub SendsRight : Setting → List Step → Step → Bool → Type 0
SendsRight v past step true = step.sends ≡ take 1 (sent past)
SendsRight v past step false = AskFor v (step ∷ past) (from_to (entries_sent v past) (entries_sent v (step ∷ past))) step.sends

-- after a STORE by ticket t, the records hold the tree's content, with its blocks placed on the path
abbrev pub PlacedBy : Setting → List Step → ℕ → List ℕ → Type 0
PlacedBy v past t m = is_store m ≡ true →
    let i = (requested m).tree in
    IsPlaced v.scheme i (requested m).leaf (store_nonce v.scheme.device t i) (records_of v past i) (content_of v past i)

-- a reaction, without its place in memory
pub record Shown : Type 0 where
  pub note : Note
  pub replies : List Reply
  pub sends : List (List ℕ)

abbrev pub shown_by : Reaction → Shown
shown_by r = record { note = r.note; replies = r.replies.items; sends = r.sends.items }

abbrev pub step_of : Event → Shown → Step
step_of e x = record { event = e; accepts = is_accepted x.note; sends = x.sends }

pub record IsRight (v : Setting) (past : List Step) (event : Event) (x : Shown) : Type 0 where
  pub note : x.note ≡ note_of v past event
  pub replies : x.replies ≡ replies_at v past (step_of event x) x.note
  pub sends : SendsRight v past (step_of event x) (is_resent x.note)
  pub placed : is_resent x.note ≡ false → All (PlacedBy v (step_of event x ∷ past) (answered_tickets v past)) x.sends

-- whether an answer shows two records with the same digest
abbrev pub shows_pair : Setting → List Step → Event → Bool
shows_pair v past (Answer bytes) =
    is_waiting (status v past) && pair_in v.scheme (records_of v past) (entry_at v past (progress v past).good) bytes
shows_pair v past (Submit s c w) = false
shows_pair v past Lost = false
shows_pair v past Reopen = false
shows_pair v past Retry = false

-- Each reaction is right, until an answer shows two records with the same digest; from that event on nothing is said.
-- There may be fewer reactions than events.
abbrev pub AllRight : Setting → List Step → List Event → List Shown → Type 0
AllRight v past events [] = Unit {0}
AllRight v past [] (x ∷ xs) = ⊥
AllRight v past (event ∷ events) (x ∷ xs) =
    shows_pair v past event ≡ false → IsRight v past event x × AllRight v (step_of event x ∷ past) events xs
