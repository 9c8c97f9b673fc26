-- A core over a host, with any number of commands at work: what it replies, and what the device will hold after them.
use Rattle.std.specs.Prelude.{◌≡◌, ◌⊎◌, ℕ, Bool, true, List, [], ◌∷◌, None}
use Rattle.std.specs.List.{FoldsTo}
use Rattle.oram_geometry.specs.declared.Sizes.{Sizes}
use Rattle.oram_host.specs.Host.{Host}
use Rattle.oram_semantics.specs.Law.{IsServing}
use Rattle.oram_semantics.specs.Scheme.{Scheme}
use Rattle.oram_semantics.specs.ArrayReplies.{array_after, reply_by}
use Rattle.oram_semantics.specs.State.{State, World}
use Rattle.oram_semantics.specs.declared.events.Reply.{Reply}
use Rattle.oram_semantics.specs.declared.events.Submission.{Submission}
use Rattle.oram_host_laws.specs.HostRecords.{Hosts}
use Rattle.oram_session.specs.Honesty.{HasFailed}
use Rattle.oram_rounds.specs.CatchUp.{CatchesUp}

-- The core hasn't failed. Its trees stand in a world and hold the array as the commands with a reply have left it, and the
-- host keeps the records of that world.
pub record IsServed (v : Scheme) (s : State) (host : Host) (array : ℕ → List ℕ) : Type 0 where
  pub alive : s.failure ≡ None
  pub world : World
  pub serving : IsServing v s world array
  pub hosts : Hosts v s world host

-- an array and the commands that wait, the oldest first
abbrev pub ArrayAndQueue : Type 0
ArrayAndQueue = (ℕ → List ℕ) × List Submission

-- the oldest command has the array's reply, and the array is as the command leaves it
abbrev pub IsReplied : Sizes → ArrayAndQueue → Reply → ArrayAndQueue → Type 0
IsReplied d p reply q = (x : Submission) × (p.1 ≡ x ∷ q.1) × (reply ≡ reply_by p.0 x) × (q.0 ≡ array_after d x.command p.0)

-- the commands have these replies, one after the other
abbrev pub AreReplied : Sizes → ArrayAndQueue → List Reply → ArrayAndQueue → Type 0
AreReplied d p replies q = FoldsTo {P = ArrayAndQueue} (IsReplied d) p replies q

-- the array after all commands of a queue
abbrev pub after_all : Sizes → List Submission → (ℕ → List ℕ) → ℕ → List ℕ
after_all d [] array = array
after_all d (x ∷ queue) array = after_all d queue (array_after d x.command array)

-- The device will hold this array once all commands that wait are carried out. If the host may lie, the device
-- may also have failed.
abbrev pub WillHold : Bool → Scheme → State → Host → (ℕ → List ℕ) → Type 0
WillHold may_lie v s host array =
    ((before : ℕ → List ℕ) × IsServed v s host before × (after_all v.device s.queue before ≡ array))
    ⊎ ((may_lie ≡ true) × HasFailed s)

-- the same, if the host still has some STOREs to carry out
abbrev pub WillHoldAfter : Bool → Scheme → State → List (List ℕ) → Host → (ℕ → List ℕ) → Type 0
WillHoldAfter may_lie v s stores host array = (later : Host) × CatchesUp v host stores later × WillHold may_lie v s later array
