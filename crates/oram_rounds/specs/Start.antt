-- A process before its first act: it begins with a formatted device, and commands are submitted.
use Rattle.std.specs.Prelude.{◌≡◌, ℕ, ◌*◌, Bool, List, [], ◌∷◌}
use Rattle.std.specs.List.{FoldsTo}
use Rattle.oram_geometry.specs.declared.Sizes.{Sizes}
use Rattle.oram_geometry.specs.Sizes.{IsDevice, trees_of}
use Rattle.oram_host.specs.Host.{Host}
use Rattle.oram_semantics.specs.Run.{Shown}
use Rattle.oram_semantics.specs.Scheme.{Scheme}
use Rattle.oram_semantics.specs.ArrayReplies.{array_after}
use Rattle.oram_semantics.specs.State.{State}
use Rattle.oram_semantics.specs.declared.events.Command.{Command}
use Rattle.oram_semantics.specs.declared.events.Event.TheVariants.{Submit}
use Rattle.oram_semantics.specs.declared.events.Note.{Note}
use Rattle.oram_semantics.specs.declared.events.Note.TheVariants.{Accepted, FailedNow, Refused, Resent, Stalled, Taken, Unexpected}
use Rattle.oram_core.specs.Steps.{Steps}
use Rattle.oram_link_laws.specs.Runs.{IsHeldBy}
use Rattle.oram_rounds.specs.Files.{IsFile}
use Rattle.oram_rounds.specs.Process.{IsSafe, Process, begun, process}
use Rattle.oram_rounds.specs.Rounds.{Round}

-- a command that is submitted, and what the core shows then
pub record SubmittedCommand : Type 0 where
  pub session : ℕ
  pub command : Command
  pub words : List ℕ
  pub shown : Shown

-- the array after the command if the core accepted it, otherwise the array unchanged
abbrev pub array_if : Note → Sizes → Command → (ℕ → List ℕ) → ℕ → List ℕ
array_if (Accepted ticket) d c array = array_after d c array
array_if (Refused e) d c array = array
array_if Taken d c array = array
array_if Stalled d c array = array
array_if (FailedNow e) d c array = array
array_if Resent d c array = array
array_if Unexpected d c array = array

-- the array after all of the commands that the core has accepted
abbrev pub array_with : Sizes → List SubmittedCommand → (ℕ → List ℕ) → ℕ → List ℕ
array_with d [] array = array
array_with d (a ∷ submitted) array = array_with d submitted (array_if a.shown.note d a.command array)

abbrev pub Submits : {B K : Type 0} → Scheme → Process B K → SubmittedCommand → Process B K → Type 0
Submits v p a q = Steps v p.core (Submit a.session a.command a.words) a.shown q.core × (q.link ≡ p.link) × (q.keeper ≡ p.keeper)

-- A session submits a command to a core, with the words that a tape has for the core's next ticket.
abbrev pub IsSubmitted : Scheme → (ℕ → ℕ → List ℕ) → ℕ → State → SubmittedCommand → State → Type 0
IsSubmitted v words session s a t =
    (a.session ≡ session) × (a.words ≡ words s.next (2 * trees_of v.device)) × Steps v s (Submit a.session a.command a.words) a.shown t

-- such commands, one after the other
abbrev pub AreSubmitted : Scheme → (ℕ → ℕ → List ℕ) → ℕ → State → List SubmittedCommand → State → Type 0
AreSubmitted v words session s submitted t = FoldsTo {P = State} (IsSubmitted v words session) s submitted t

-- What is submitted to a core is submitted to its process, whose link and keeper stay as they are.
abbrev pub SubmittedToProcesses : Type 0 → Type 0 → Type 0
SubmittedToProcesses B K = (v : Scheme) (words : ℕ → ℕ → List ℕ) (session : ℕ) (submitted : List SubmittedCommand) (s t : State) (l : Round B) (k : K) → AreSubmitted v words session s submitted t
    → FoldsTo {P = Process B K} (Submits v) (process s l k) submitted (process t l k)

-- The device will hold an array, whatever is read back will hold it too, and commands are submitted. Then the device will hold
-- the array after those that were accepted, and what is read back will hold the array before them.
abbrev pub SubmittedIsSafe : (B : Type 0) {K : Type 0} → (K → List ℕ → Type 0) → Type 0
SubmittedIsSafe B {K} reads_back = (may_lie : Bool) (v : Scheme) (submitted : List SubmittedCommand) (p q : Process B K) (host : Host) (array : ℕ → List ℕ) → IsDevice v.device
    → IsSafe may_lie v reads_back p host array array → FoldsTo {P = Process B K} (Submits v) p submitted q
    → IsSafe may_lie v reads_back q host array (array_with v.device submitted array)

-- If a device is held by a host, as it is once it has been formatted, and its core is what is read back, a process that begins
-- with this core is safe.
abbrev pub HeldIsSafe : (B : Type 0) {K : Type 0} → (K → List ℕ → Type 0) → Type 0
HeldIsSafe B {K} reads_back = (may_lie : Bool) (v : Scheme) (inner : B) (core : State) (keeper : K) (host : Host) (array : ℕ → List ℕ) → IsHeldBy v core host array
    → ((bytes : List ℕ) → reads_back keeper bytes → IsFile v bytes [] core) → IsSafe may_lie v reads_back (begun inner v [] core keeper) host array array
