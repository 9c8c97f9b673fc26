-- A core between two requests, and a core at work.
use Rattle.std.specs.Prelude.{◌≡◌, ℕ, ◌+◌, ◌-◌, ◌*◌, Bool, true, false, List, [], ◌∷◌, length, ⊤, Option, Some, None, if◌then◌else◌}
use Rattle.oram_geometry.specs.declared.Sizes.{Sizes}
use Rattle.oram_geometry.specs.Sizes.{trees_of}
use Rattle.oram_semantics.specs.Progress.{Status}
use Rattle.oram_semantics.specs.Progress.Status.{Idle, Waiting, Stalling, Over}
use Rattle.oram_semantics.specs.Run.{is_waiting}
use Rattle.oram_semantics.specs.State.{State, status_in}
use Rattle.oram_semantics.specs.declared.events.Note.{Note}
use Rattle.oram_semantics.specs.declared.events.Note.TheVariants as note
use Rattle.oram_semantics.specs.declared.events.ReplyBody.{ReplyBody}
use Rattle.oram_semantics.specs.declared.events.ReplyBody.TheVariants.{Data, Done, Failed}
use Rattle.oram_core.specs.PlainSteps.{Done as Did}

-- whether no command waits for an answer: the core is idle, or the device has failed
abbrev pub has_no_work_in : Status → Bool
has_no_work_in Over = true
has_no_work_in Idle = true
has_no_work_in Waiting = false
has_no_work_in Stalling = false

-- The core has failed, or it is idle.
abbrev pub HasNoWork : State → Type 0
HasNoWork s = has_no_work_in (status_in s) ≡ true

-- the message that was sent and isn't answered yet
abbrev pub outstanding : State → Option (List ℕ)
outstanding s = if is_waiting (status_in s) then Some s.message else None

-- the core has sent a message and shown nothing else
pub record IsUnderWay (m : Did) : Type 0 where
  pub waits : status_in m.state ≡ Waiting
  pub sends : m.sends ≡ m.state.message ∷ []
  pub none : m.replies ≡ []

-- if the reply has data, it is as long as a block
abbrev pub IsBodyOf : Sizes → ReplyBody → Type 0
IsBodyOf d (Data bytes) = length bytes ≡ d.block_bytes
IsBodyOf d Done = ⊤
IsBodyOf d Failed = ⊤

-- the result of a submission to a core without work
abbrev pub IsBegun : State → Note → Did → Type 0
IsBegun s (note.Accepted ticket) m = IsUnderWay m × (length m.state.queue ≡ 1)
IsBegun s (note.Refused why) m = m.state ≡ s
IsBegun s note.Taken m = ⊥
IsBegun s note.Stalled m = ⊥
IsBegun s (note.FailedNow why) m = ⊥
IsBegun s note.Resent m = ⊥
IsBegun s note.Unexpected m = ⊥

-- a bound on the number of answers that the commands at work still need; it gets less with each answer
abbrev pub answers_left : Sizes → State → ℕ
answers_left d s = length s.queue * (2 * trees_of d + 1) + (2 * trees_of d - s.entry_number)
