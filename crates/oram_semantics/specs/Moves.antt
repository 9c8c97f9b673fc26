-- The local rule: what one event does to a core in a world.
use Rattle.std.specs.Prelude.{◌≡◌, ℕ, ◌+◌, ◌-◌, ◌*◌, ◌%◌, ◌^◌, ◌≤◌, ◌==◌, ◌&&◌, Bool, true, false, if◌then◌else◌, List, [], ◌∷◌, ◌++◌, length, slice_index, slice_set, Option, Some, None, map, unwrap_or}
use Rattle.std.specs.List.{All}
use Rattle.oram_geometry.specs.declared.Sizes.{Sizes}
use Rattle.oram_geometry.specs.Sizes.{trees_of, depth_of, leaf_of}
use Rattle.oram_trace.specs.declared.entries.Entry.{Entry}
use Rattle.oram_semantics.specs.Content.{entry_tree}
use Rattle.oram_semantics.specs.Events.{failed_reply}
use Rattle.oram_semantics.specs.Scheme.{Scheme}
use Rattle.oram_semantics.specs.Messages.{IsMessage, requested, is_store, written}
use Rattle.oram_semantics.specs.Answers.{Outcome, outcome_of, pair_in}
use Rattle.oram_semantics.specs.Answers.Outcome.{Good, NoRoom, Fails}
use Rattle.oram_tree.specs.Content.{Map, Entry as Held}
use Rattle.oram_semantics.specs.Content.{block_of, new_leaf}
use Rattle.oram_semantics.specs.Blocks.{found_in, block_after, next_map_entry, kept_of, put_in, body_from}
use Rattle.oram_semantics.specs.Progress.{Status}
use Rattle.oram_semantics.specs.Progress.Status.{Idle, Waiting, Stalling, Over}
use Rattle.oram_semantics.specs.Run.{Shown, refusal_of, is_over, is_waiting}
use Rattle.oram_semantics.specs.State.{State, World, AllStand, failed_state, status_in, map_entry_now, map_entry_of}
use Rattle.oram_semantics.specs.Trees.{IsPlaced}
use Rattle.oram_semantics.specs.declared.events.Event.{Event}
use Rattle.oram_semantics.specs.declared.events.Event.TheVariants.{Submit, Answer, Lost, Reopen, Retry}
use Rattle.oram_semantics.specs.declared.events.Reason.{Reason}
use Rattle.oram_semantics.specs.declared.events.Refusal.{Refusal}
use Rattle.oram_semantics.specs.declared.events.Note.{Note}
use Rattle.oram_semantics.specs.declared.events.Note.TheVariants.{Accepted, Refused, Taken, Stalled, FailedNow, Resent, Unexpected}
use Rattle.oram_semantics.specs.declared.events.Reply.{Reply}
use Rattle.oram_semantics.specs.declared.events.Submission.{Submission}

-- what the core should send: nothing, the last message again, or a message that asks for an entry
pub data Ask : Type 0 where
  Nothing : Ask
  Again : Ask
  For : Entry → Ask

-- What a core shows at an event, and its state and the trees' content afterwards. The trees, the nonce and the last
-- message in the state are as if the core sent nothing.
pub record Moved : Type 0 where
  pub note : Note
  pub replies : List Reply
  pub ask : Ask
  pub state : State
  pub content : ℕ → Map

-- the leaf that a submission fetches in tree i, given the map entry of its block: if the entry is 0, the leaf of the
-- spare word
abbrev pub leaf_for : Sizes → ℕ → ℕ → Submission → ℕ
leaf_for d i map_entry x = if map_entry == 0 then leaf_of d i (slice_index x.words (2 * i)) else map_entry - 1

-- the FETCH at this stage, given the map entry of the block
abbrev pub fetch_at : Sizes → ℕ → ℕ → Submission → Entry
fetch_at d entry_number map_entry x = record { fetch = true; tree = entry_tree d entry_number; leaf = leaf_for d (entry_tree d entry_number) map_entry x }

-- the first FETCH of the oldest command, if there is one
abbrev pub first_fetch : Sizes → List ℕ → List Submission → Ask
first_fetch d table [] = Nothing
first_fetch d table (x ∷ rest) = For (fetch_at d 0 (slice_index table (block_of d (trees_of d - 1) x)) x)

abbrev pub if_idle : List Submission → Ask → Ask
if_idle [] ask = ask
if_idle (x ∷ rest) ask = Nothing

-- the core shows only a note
abbrev pub stays : State → World → Note → Moved
stays s w note = record { note = note; replies = []; ask = Nothing; state = s; content = w.content }

-- a command joins the queue; an idle core fetches the command's first path
abbrev pub accepts : Scheme → State → World → Submission → Moved
accepts v s w x = record {
  note = Accepted x.ticket;
  replies = [];
  ask = if_idle s.queue (first_fetch v.device s.table (x ∷ []));
  state = record s { next = s.next + 1; queue = s.queue ++ x ∷ [] };
  content = w.content;
}

-- a path has come: its block is changed and gets the new word's leaf, and the path is stored
abbrev pub stores : Scheme → State → World → Submission → Moved
stores v s w x =
    let d = v.device in
    let i = entry_tree d s.entry_number in
    let a = block_of d i x in
    let bytes = found_in d (w.content i a) in
    record {
      note = Taken;
      replies = [];
      ask = For (record { fetch = false; tree = i; leaf = (requested s.message).leaf });
      state = record s {
        table = if s.entry_number == 0 then slice_set s.table a (new_leaf d i x + 1) else s.table;
        entry_number = s.entry_number + 1;
        held_entry = next_map_entry d i x bytes;
        held_data = kept_of i bytes;
      };
      content = put_in w.content i a (record { leaf = new_leaf d i x; content = block_after d i x bytes });
    }

-- a path is stored, and the core fetches the next tree's
abbrev pub fetches : Scheme → State → World → Submission → Moved
fetches v s w x = record {
  note = Taken;
  replies = [];
  ask = For (fetch_at v.device (s.entry_number + 1) s.held_entry x);
  state = record s { entry_number = s.entry_number + 1 };
  content = w.content;
}

-- the last path is stored: the core replies, and the next command begins
abbrev pub finishes : Scheme → State → World → Submission → List Submission → Moved
finishes v s w x rest = record {
  note = Taken;
  replies = (record { session = x.session; ticket = x.ticket; body = body_from s.held_data x.command }) ∷ [];
  ask = first_fetch v.device s.table rest;
  state = record s { queue = rest; entry_number = 0; held_entry = 0; held_data = []; message = [] };
  content = w.content;
}

-- the effect of a good answer on the oldest command without a reply
abbrev pub goes_on : Scheme → State → World → List Submission → Moved
goes_on v s w [] = stays s w Unexpected
goes_on v s w (x ∷ rest) =
    if s.entry_number % 2 == 0 then stores v s w x
    else if s.entry_number + 1 == 2 * trees_of v.device then finishes v s w x rest
    else fetches v s w x

-- the message counts as lost
abbrev pub stalls : State → World → Moved
stalls s w = record { note = Stalled; replies = []; ask = Nothing; state = record s { lost = true }; content = w.content }

-- the core sends the message again
abbrev pub resends : State → World → Moved
resends s w = record { note = Resent; replies = []; ask = Again; state = record s { lost = false }; content = w.content }

-- Each command without a reply is answered as failed, and the core forgets its trees.
abbrev pub fails : State → World → Reason → Moved
fails s w e = record { note = FailedNow e; replies = map failed_reply s.queue; ask = Nothing; state = failed_state s.next s.nonce e; content = w.content }

-- the effect of a submission, by why it is refused, if it is
abbrev pub on_submission : Scheme → State → World → Submission → Option Refusal → Moved
on_submission v s w x (Some e) = stays s w (Refused e)
on_submission v s w x None = accepts v s w x

-- the effect of an answer, by the core's status and what the answer means
abbrev pub on_answer : Scheme → State → World → Status → Outcome → Moved
on_answer v s w Waiting Good = goes_on v s w s.queue
on_answer v s w Waiting NoRoom = stalls s w
on_answer v s w Waiting (Fails e) = fails s w e
on_answer v s w Idle o = stays s w Unexpected
on_answer v s w Stalling o = stays s w Unexpected
on_answer v s w Over o = stays s w Unexpected

-- the effect of a lost message, by the core's status
abbrev pub on_loss : State → World → Status → Moved
on_loss s w Waiting = stalls s w
on_loss s w Idle = stays s w Unexpected
on_loss s w Stalling = stays s w Unexpected
on_loss s w Over = stays s w Unexpected

-- the effect of a retry, by the core's status
abbrev pub on_retry : State → World → Status → Moved
on_retry s w Stalling = resends s w
on_retry s w Idle = stays s w Unexpected
on_retry s w Waiting = stays s w Unexpected
on_retry s w Over = stays s w Unexpected

-- the effect of an event on a core in a world
abbrev pub moved : Scheme → State → World → Event → Moved
moved v s w (Submit session c words) =
    on_submission v s w (record { session = session; ticket = s.next; command = c; words = words })
    (refusal_of v.device (is_over (status_in s)) (length s.queue) s.next c words)
moved v s w (Answer bytes) = on_answer v s w (status_in s) (outcome_of v w.records (requested s.message) bytes)
moved v s w Lost = on_loss s w (status_in s)
moved v s w Reopen = on_loss s w (status_in s)
moved v s w Retry = on_retry s w (status_in s)

-- these are the messages that the core should send
abbrev pub Sends : Scheme → List ℕ → Ask → List (List ℕ) → Type 0
Sends v last Nothing xs = xs ≡ []
Sends v last Again xs = xs ≡ last ∷ []
Sends v last (For e) xs = (m : List ℕ) × (xs ≡ m ∷ []) × IsMessage v e m

-- the message sent last, after these messages
abbrev pub latest : List (List ℕ) → List ℕ → List ℕ
latest [] last = last
latest (m ∷ ms) last = m

-- the records at the host after these messages, the newest first
abbrev pub records_after : Scheme → (ℕ → ℕ → List ℕ) → List (List ℕ) → ℕ → ℕ → List ℕ
records_after v records [] i n = records i n
records_after v records (m ∷ older) i n = unwrap_or (written v m i n) (records_after v records older i n)

-- the records at the host afterwards; sending the last message again changes nothing
abbrev pub records_next : Scheme → (ℕ → ℕ → List ℕ) → Ask → List (List ℕ) → ℕ → ℕ → List ℕ
records_next v records Nothing sends = records
records_next v records Again sends = records
records_next v records (For e) sends = records_after v records sends

abbrev pub world_after : Scheme → World → Moved → List (List ℕ) → World
world_after v w m sends = record { records = records_next v w.records m.ask sends; content = m.content }

-- whether a message is a new one, and not sent again
abbrev pub is_new : Ask → Bool
is_new (For e) = true
is_new Nothing = false
is_new Again = false

-- the number of buckets that are sealed for a message
abbrev pub buckets_in : Sizes → Ask → ℕ
buckets_in d Nothing = 0
buckets_in d Again = 0
buckets_in d (For e) = if e.fetch then 0 else depth_of d e.tree + 1

-- after a STORE, the records hold the tree's content, with its blocks placed on the path
abbrev pub PlacedIn : Scheme → ℕ → World → List ℕ → Type 0
PlacedIn v nonce w m = is_store m ≡ true →
    let i = (requested m).tree in
    IsPlaced v i (requested m).leaf nonce (w.records i) (w.content i)

-- The core shows what the rule says and goes on to the state t; the trees and the messages are the core's choice.
pub record MovesTo (v : Scheme) (s : State) (w : World) (m : Moved) (x : Shown) (t : State) : Type 0 where
  pub note : x.note ≡ m.note
  pub replies : x.replies ≡ m.replies
  pub sends : Sends v s.message m.ask x.sends
  pub state : t ≡ record m.state { trees = t.trees; nonce = s.nonce + buckets_in v.device m.ask; message = latest x.sends m.state.message }
  pub holds : t.failure ≡ None → AllStand v t (world_after v w m x.sends)
  pub placed : is_new m.ask ≡ true → All (PlacedIn v s.nonce (world_after v w m x.sends)) x.sends

-- In a world, at an event, the rule allows the core to show x and to go on to the state t.
abbrev pub Moves : Scheme → State → World → Event → Shown → State → Type 0
Moves v s w event x t = MovesTo v s w (moved v s w event) x t

-- what the tree of the outstanding FETCH has for the command's block
abbrev pub held_now : Scheme → State → World → Submission → Option Held
held_now v s w x = let i = entry_tree v.device s.entry_number in w.content i (block_of v.device i x)

-- While a FETCH is outstanding, the tree's content has its block with the leaf that the map names, and the block's
-- entry for the next tree is 0 or names a leaf there.
pub record IsReadyFor (v : Scheme) (s : State) (w : World) (x : Submission) : Type 0 where
  pub held_entry : map_entry_of (held_now v s w x) ≡ map_entry_now v.device s x
  pub next :
      let i = entry_tree v.device s.entry_number in
      next_map_entry v.device i x (found_in v.device (held_now v s w x)) ≤ 2 ^ depth_of v.device (i - 1)

abbrev pub IsReady : Scheme → State → World → List Submission → Type 0
IsReady v s w [] = Unit {0}
IsReady v s w (x ∷ rest) = s.entry_number % 2 ≡ 0 → IsReadyFor v s w x

-- the core can go on in this world; a failed core can in any
abbrev pub Fits : Scheme → State → World → Type 0
Fits v s w = s.failure ≡ None → AllStand v s w × IsReady v s w s.queue

-- whether an answer shows two records with the same digest
abbrev pub shows_in : Scheme → State → World → Event → Bool
shows_in v s w (Answer bytes) = is_waiting (status_in s) && pair_in v w.records (requested s.message) bytes
shows_in v s w (Submit session c words) = false
shows_in v s w Lost = false
shows_in v s w Reopen = false
shows_in v s w Retry = false
