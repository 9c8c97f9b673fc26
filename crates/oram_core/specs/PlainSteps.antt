-- The steps of a core that don't depend on the trees.
use Rattle.std.specs.Prelude.{ℕ, ◌+◌, ◌-◌, ◌^◌, ◌==◌, ◌&&◌, ◌||◌, not, Bool, true, false, if◌then◌else◌, List, [], ◌∷◌, ◌++◌, length, slice_index, slice_set, Option, Some, None, map, nat_lt}
use Rattle.std.specs.Str.{bytes_eq}
use Rattle.oram_geometry.specs.declared.Sizes.{Sizes}
use Rattle.oram_geometry.specs.Sizes.{trees_of, depth_of}
use Rattle.oram_trace.specs.declared.entries.Entry.{Entry}
use Rattle.oram_wire.specs.HostMessages.{fetch_body, no_room_answer, store_body}
use Rattle.oram_semantics.specs.Events.{failed_reply}
use Rattle.oram_semantics.specs.Scheme.{Scheme}
use Rattle.oram_semantics.specs.Content.{block_of, new_leaf, entry_tree}
use Rattle.oram_semantics.specs.Messages.{requested}
use Rattle.oram_semantics.specs.Moves.{fetch_at, latest}
use Rattle.oram_semantics.specs.Blocks.{body_from, next_map_entry, kept_of}
use Rattle.oram_semantics.specs.Progress.{Status}
use Rattle.oram_semantics.specs.Progress.Status.{Idle, Waiting, Stalling, Over}
use Rattle.oram_semantics.specs.Run.{refusal_of, is_over}
use Rattle.oram_semantics.specs.State.{State, failed_state, map_entry_now, status_in}
use Rattle.oram_semantics.specs.declared.events.Event.{Event}
use Rattle.oram_semantics.specs.declared.events.Event.TheVariants.{Submit, Answer, Lost, Reopen, Retry}
use Rattle.oram_semantics.specs.declared.events.Note.{Note}
use Rattle.oram_semantics.specs.declared.events.Note.TheVariants.{Accepted, Refused, Taken, Stalled, FailedNow, Resent, Unexpected}
use Rattle.oram_semantics.specs.declared.events.Reason.{Reason}
use Rattle.oram_semantics.specs.declared.events.Refusal.{Refusal}
use Rattle.oram_semantics.specs.declared.events.Reply.{Reply}
use Rattle.oram_semantics.specs.declared.events.Reaction.{Reaction}
use Rattle.oram_semantics.specs.declared.events.Submission.{Submission}

-- what a core shows at a step, and its state afterwards
pub record Done : Type 0 where
  pub note : Note
  pub replies : List Reply
  pub sends : List (List ℕ)
  pub state : State

abbrev pub done : Reaction → State → Done
done r s = record { note = r.note; replies = r.replies.items; sends = r.sends.items; state = s }

-- the core shows only a note
abbrev pub noted : State → Note → Done
noted s note = record { note = note; replies = []; sends = []; state = s }

-- the FETCH of an entry
abbrev pub fetch_of : Entry → List ℕ
fetch_of e = fetch_body e.tree e.leaf

-- the first FETCH of a command
abbrev pub first_message : Sizes → State → Submission → List ℕ
first_message d s x = fetch_of (fetch_at d 0 (slice_index s.table (block_of d (trees_of d - 1) x)) x)

abbrev pub first_messages : Sizes → State → List Submission → List (List ℕ)
first_messages d s [] = []
first_messages d s (x ∷ rest) = first_message d s x ∷ []

abbrev pub sent_if_idle : List Submission → List ℕ → List (List ℕ)
sent_if_idle [] m = m ∷ []
sent_if_idle (x ∷ rest) m = []

abbrev pub accepted_by : Scheme → State → Submission → Done
accepted_by v s x =
    let sends = sent_if_idle s.queue (first_message v.device s x) in
    record { note = Accepted x.ticket; replies = []; sends = sends; state = record s { next = s.next + 1; queue = s.queue ++ x ∷ []; message = latest sends s.message } }

abbrev pub stalled_by : State → Done
stalled_by s = noted (record s { lost = true }) Stalled

abbrev pub resent_by : State → Done
resent_by s = record { note = Resent; replies = []; sends = s.message ∷ []; state = record s { lost = false } }

abbrev pub failed_by : State → Reason → Done
failed_by s e = record { note = FailedNow e; replies = map failed_reply s.queue; sends = []; state = failed_state s.next s.nonce e }

-- the core fetches the path of the next tree
abbrev pub fetched_by : Scheme → State → Submission → Done
fetched_by v s x =
    let m = fetch_of (fetch_at v.device (s.entry_number + 1) s.held_entry x) in
    record { note = Taken; replies = []; sends = m ∷ []; state = record s { entry_number = s.entry_number + 1; message = m } }

-- the core replies to the oldest command
abbrev pub finished_by : Scheme → State → Submission → List Submission → Done
finished_by v s x rest =
    let sends = first_messages v.device s rest in
    record {
      note = Taken;
      replies = (record { session = x.session; ticket = x.ticket; body = body_from s.held_data x.command }) ∷ [];
      sends = sends;
      state = record s { queue = rest; entry_number = 0; held_entry = 0; held_data = []; message = latest sends [] };
    }

-- the core stores a path; the tree in s has changed by the access already
abbrev pub stored_by : Scheme → State → Submission → List ℕ → List ℕ → Done
stored_by v s x before records =
    let d = v.device in
    let i = entry_tree d s.entry_number in
    let m = store_body i (requested s.message).leaf records in
    record {
      note = Taken;
      replies = [];
      sends = m ∷ [];
      state = record s {
        table = if s.entry_number == 0 then slice_set s.table (block_of d i x) (new_leaf d i x + 1) else s.table;
        nonce = s.nonce + (depth_of d i + 1);
        entry_number = s.entry_number + 1;
        held_entry = next_map_entry d i x before;
        held_data = kept_of i before;
        message = m;
      };
    }

-- whether no command waits
abbrev pub is_idle : Status → Bool
is_idle Idle = true
is_idle Waiting = false
is_idle Stalling = false
is_idle Over = false

-- whether the outstanding message counts as lost
abbrev pub is_stalled : Status → Bool
is_stalled Stalling = true
is_stalled Idle = false
is_stalled Waiting = false
is_stalled Over = false

-- the map has led astray: it names a block that isn't found, or its entry for the tree below is no leaf there
abbrev pub is_misled : Scheme → State → Submission → Bool → List ℕ → Bool
is_misled v s x found before =
    let i = entry_tree v.device s.entry_number in
    (not (map_entry_now v.device s x == 0) && not found) || (nat_lt 0 i && nat_lt (2 ^ depth_of v.device (i - 1)) (next_map_entry v.device i x before))

-- the core refuses a submission, or adds it to the queue
abbrev pub submitted_by : Scheme → State → Submission → Option Refusal → Done
submitted_by v s x (Some e) = noted s (Refused e)
submitted_by v s x None = accepted_by v s x

-- a loss: the outstanding message counts as lost
abbrev pub lost_by : State → Status → Done
lost_by s Waiting = stalled_by s
lost_by s Idle = noted s Unexpected
lost_by s Stalling = noted s Unexpected
lost_by s Over = noted s Unexpected

-- a retry: the core sends a lost message again
abbrev pub retried_by : State → Status → Done
retried_by s Stalling = resent_by s
retried_by s Idle = noted s Unexpected
retried_by s Waiting = noted s Unexpected
retried_by s Over = noted s Unexpected

-- an answer that the core doesn't wait for, or the answer that the host has no room; `None` for any other answer
abbrev pub unheard_by : State → Bool → Status → Option Done
unheard_by s no_room Waiting = if no_room then Some (stalled_by s) else None
unheard_by s no_room Idle = Some (noted s Unexpected)
unheard_by s no_room Stalling = Some (noted s Unexpected)
unheard_by s no_room Over = Some (noted s Unexpected)

-- What a core does at an event whatever the host keeps. It is known for each event except an answer that the core
-- waits for and that isn't the refusal for lack of room.
abbrev pub plain_step : Scheme → State → Event → Option Done
plain_step v s (Submit session c words) =
    Some (submitted_by v s (record { session = session; ticket = s.next; command = c; words = words }) (refusal_of v.device (is_over (status_in s)) (length s.queue) s.next c words))
plain_step v s (Answer bytes) = unheard_by s (bytes_eq bytes no_room_answer) (status_in s)
plain_step v s Lost = Some (lost_by s (status_in s))
plain_step v s Reopen = Some (lost_by s (status_in s))
plain_step v s Retry = Some (retried_by s (status_in s))

-- whether a step with this note needs no memory: it refuses, is unexpected, or stalls
abbrev pub is_free_note : Note → Bool
is_free_note (Accepted t) = false
is_free_note (Refused e) = true
is_free_note Taken = false
is_free_note Stalled = true
is_free_note (FailedNow e) = false
is_free_note Resent = false
is_free_note Unexpected = true
