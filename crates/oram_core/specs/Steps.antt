-- Everything that a step promises.
use Rattle.std.specs.Prelude.{◌≡◌, ◌≢◌, ℕ, ◌+◌, ◌*◌, ◌%◌, ◌<◌, ◌⊎◌, false, List, [], ◌∷◌, length, Some, map}
use Rattle.oram_geometry.specs.Sizes.{trees_of}
use Rattle.oram_semantics.specs.Events.{failed_reply}
use Rattle.oram_semantics.specs.Moves.{Fits, Moves, shows_in}
use Rattle.oram_semantics.specs.Progress.Status.{Waiting}
use Rattle.oram_semantics.specs.Run.{Shown}
use Rattle.oram_semantics.specs.Scheme.{Scheme}
use Rattle.oram_semantics.specs.State.{State, World, failed_state, status_in}
use Rattle.oram_semantics.specs.declared.events.Event.{Event}
use Rattle.oram_semantics.specs.declared.events.Event.TheVariants.{Answer}
use Rattle.oram_semantics.specs.declared.events.Note.TheVariants.{Taken, FailedNow}
use Rattle.oram_semantics.specs.declared.events.Reason.{Reason}
use Rattle.oram_semantics.specs.declared.events.Submission.{Submission}
use Rattle.oram_core.specs.PlainSteps.{Done, plain_step, fetched_by, finished_by}
use Rattle.oram_core.specs.AnswerMeaning.{IsVerdict}
use Rattle.oram_wire.specs.HostMessages.{no_room_answer}

abbrev pub did : Shown → State → Done
did x t = record { note = x.note; replies = x.replies; sends = x.sends; state = t }

-- the device fails: each command without a reply is answered as failed, and the core forgets its trees
pub record Fails (s : State) (d : Done) : Type 0 where
  pub reason : Reason
  pub note : d.note ≡ FailedNow reason
  pub replies : d.replies ≡ map failed_reply s.queue
  pub sends : d.sends ≡ []
  pub state : d.state ≡ failed_state s.next s.nonce reason

-- the core fetches the path that the map named for the oldest command's block, and changes nothing else
pub record IsNextFetched (v : Scheme) (s : State) (d : Done) : Type 0 where
  pub oldest : Submission
  pub rest : List Submission
  pub queue : s.queue ≡ oldest ∷ rest
  pub does : d ≡ fetched_by v s oldest

-- the core sends the oldest command's next message
pub record GoesOn (v : Scheme) (s : State) (d : Done) : Type 0 where
  pub note : d.note ≡ Taken
  pub replies : d.replies ≡ []
  pub sends : d.sends ≡ d.state.message ∷ []
  pub queue : d.state.queue ≡ s.queue
  pub waits : status_in d.state ≡ Waiting
  pub next : d.state.next ≡ s.next
  pub entry_number : d.state.entry_number ≡ s.entry_number + 1
  pub within : d.state.entry_number < 2 * trees_of v.device
  -- after a STORE, that is the FETCH of the path that the map named
  pub fetched : s.entry_number % 2 ≡ 1 → IsNextFetched v s d

-- the oldest command gets its reply, with a whole block of data, and the next command begins
pub record Replies (v : Scheme) (s : State) (d : Done) : Type 0 where
  pub oldest : Submission
  pub rest : List Submission
  pub queue : s.queue ≡ oldest ∷ rest
  pub does : d ≡ finished_by v s oldest rest
  pub long : length s.held_data ≡ v.device.block_bytes

-- the effect of an answer that the core waits for, whatever host gives it
abbrev pub Heard : Scheme → State → Done → Type 0
Heard v s d = Fails s d ⊎ (GoesOn v s d ⊎ Replies v s d)

-- A step at an event, which shows x and leaves the core in the state t.
pub record Steps (v : Scheme) (s : State) (event : Event) (x : Shown) (t : State) : Type 0 where
  -- if the effect of the event doesn't depend on the trees, it is the plain step
  pub plain : (d : Done) → plain_step v s event ≡ Some d → did x t ≡ d
  -- any other answer that the core waits for, from whatever host, fails it, makes it go on, or gives a reply
  pub heard : (bytes : List ℕ) → event ≡ Answer bytes → status_in s ≡ Waiting → bytes ≢ no_room_answer → Heard v s (did x t)
  -- the note says what such an answer is by the core's own digests, stashes and map
  pub verdict : (bytes : List ℕ) → event ≡ Answer bytes → status_in s ≡ Waiting → bytes ≢ no_room_answer → IsVerdict v s bytes x.note
  -- in each world that the core fits, the step follows the local rule, unless the answer shows two records with the
  -- same digest
  pub moves : (w : World) → Fits v s w → shows_in v s w event ≡ false → Moves v s w event x t
