-- How a machine corresponds to the run of a script.
use Rattle.std.specs.Prelude.{◌≡◌, ◌⊎◌, ℕ, ◌+◌, ◌-◌, ◌*◌, ◌<◌, false, if◌then◌else◌, List, length, ◌++◌, Option, Some, None, is_some, IfSome, ⊤}
use Rattle.std.specs.Io.KnownBytes.{Appends}
use Rattle.std.specs.List.{AllByRecursion, FoldsTo}
use Rattle.oram_geometry.specs.declared.Sizes.{Sizes}
use Rattle.oram_geometry.specs.Sizes.{IsDevice, trees_of}
use Rattle.oram_host.specs.Host.{Host}
use Rattle.oram_tree.specs.State.{State as Tree}
use Rattle.oram_semantics.specs.Formatting.{IsFormatted}
use Rattle.oram_semantics.specs.Law.{IsServing, StepsByRule, new_state}
use Rattle.oram_semantics.specs.Progress.{Setting}
use Rattle.oram_semantics.specs.Run.{Shown, fails_now, is_waiting}
use Rattle.oram_semantics.specs.State.{State, World, status_in}
use Rattle.oram_semantics.specs.declared.events.Event.{Event}
use Rattle.oram_core.specs.Steps.{Steps}
use Rattle.oram_host_laws.specs.Honest.{IsHonest}
use Rattle.oram_host_laws.specs.HostRecords.{Hosts}
use Rattle.oramsim.specs.Printer.{memory_text, reaction_text}
use Rattle.oramsim.specs.Script.{HasNoFailure, HasRun, IsBeginning, IsCutText, IsDrained, IsHarmlessScript, IsScriptText, Obeys, Point, Running, Stage, Turn, after_turn, newest_of, plain_scheme, stage_text, text_at, with_host}
use Rattle.oramsim.specs.declared.line.Line.{Line}
use Rattle.oramsim.specs.declared.line.Line.TheVariants.{Drain}
use Rattle.oramsim.specs.declared.script.Ending.{Ending}
use Rattle.oramsim.specs.declared.script.SimFault.{SimFault}
use Rattle.oramsim.specs.declared.script.SimFault.TheVariants.{OutOfMemory, Read, Write}
use Rattle.oramsim.specs.declared.machine.Machine.{Machine}

-- A message is outstanding exactly while the core waits for an answer, and it is the message that the core sent last.
pub record IsWhole (d : Sizes) (s : State) (message : Option (List ℕ)) : Type 0 where
  pub waits : is_some message ≡ is_waiting (status_in s)
  pub latest : IfSome message (λ m. m ≡ s.message)
  pub rests : s.failure ≡ None → length s.queue ≡ 0 → s.lost ≡ false
  pub stage : s.failure ≡ None → s.entry_number < 2 * trees_of d

-- And the device has one block to a leaf, so that it has a state file.
abbrev pub IsWholeMachine : Machine → Type 0
IsWholeMachine m = (m.core.device.leaf_load ≡ 1) × IsWhole m.core.device m.core.state m.outstanding

-- how many answers are still needed until all commands have a reply
abbrev pub answers_left : Sizes → State → Option (List ℕ) → ℕ
answers_left d s message = if is_some message then 2 * trees_of d * length s.queue - s.entry_number + 1 else 0

abbrev pub still_wanted : Machine → ℕ
still_wanted m = answers_left m.core.device m.core.state m.outstanding

-- The core made a step at an event, which shows x, and `sent` is the newest message of that step.
pub record IsPlayed (d : Sizes) (s : State) (event : Event) (x : Shown) (sent : Option (List ℕ)) (t : State) : Type 0 where
  pub steps : Steps (plain_scheme d) s event x t
  pub newest : sent ≡ newest_of x.sends None

-- Steps lead from a core that has just been formatted to this one.
abbrev pub LeadsTo : Setting → List Turn → State → Type 0
LeadsTo v turns s = (trees : List Tree) × IsFormatted v trees × FoldsTo (λ a t b. StepsByRule v.scheme a t.event t.shown b) (new_state v trees) turns s

-- The machine is in the state that the run describes.
pub record IsAtRun (r : Running) (m : Machine) : Type 0 where
  pub ranges : IsDevice m.core.device
  pub scheme : r.setting.scheme ≡ plain_scheme m.core.device
  pub leads : LeadsTo r.setting r.turns m.core.state
  pub message : m.outstanding ≡ r.message
  pub host : m.server ≡ r.host
  pub copy : m.snapshot ≡ r.copy

-- The device has never failed.
abbrev pub IsCalm : Running → Type 0
IsCalm r = AllByRecursion (λ t. fails_now t.shown.note ≡ false) r.turns

abbrev pub IsCalmAt : Stage → Type 0
IsCalmAt None = ⊤
IsCalmAt (Some r) = IsCalm r

-- The device has never failed, its core serves an array, and the host keeps the records for that.
pub record IsFaithful (r : Running) (s : State) : Type 0 where
  pub calm : IsCalm r
  pub alive : s.failure ≡ None
  pub world : World
  pub array : ℕ → List ℕ
  pub serving : IsServing r.setting.scheme s world array
  pub hosts : Hosts r.setting.scheme s world r.host

-- if a script has a run, the machine's core keeps what the run says
abbrev pub IsFaithfulAt : Stage → Option Machine → Type 0
IsFaithfulAt None machine = ⊤
IsFaithfulAt (Some r) None = ⊥
IsFaithfulAt (Some r) (Some m) = IsFaithful r m.core.state

-- If the run was faithful with the host as `before`, and the host did at this event what an honest one does, the run
-- stays faithful.
abbrev pub StaysFaithful : Running → State → Event → Shown → State → Type 0
StaysFaithful r s e x t = (before : Host) → IsHonest (status_in s) s.message e before r.host → IsFaithful (with_host r before) s → IsFaithful (after_turn r e x) t

-- The run was faithful before this event, and at the event the host does what an honest one does.
abbrev pub IsHonestAt : Running → State → Event → Type 0
IsHonestAt r s e = (before : Host) × IsHonest (status_in s) s.message e before r.host × IsFaithful (with_host r before) s

abbrev pub AreWhole : Option Machine → Type 0
AreWhole None = ⊤
AreWhole (Some m) = IsWholeMachine m

-- a script has a run exactly if it has a machine, and that machine is at the run's end
abbrev pub StandsAt : Stage → Option Machine → Type 0
StandsAt None None = ⊤
StandsAt None (Some m) = ⊥
StandsAt (Some r) None = ⊥
StandsAt (Some r) (Some m) = IsAtRun r m

-- What is printed between two points was written.
abbrev pub Prints : List ℕ → List ℕ → Option (List ℕ) → Option (List ℕ) → Type 0
Prints before after old new = (out : List ℕ) × (after ≡ before ++ out) × Appends old new out

-- The machine goes on, and so does the run.
abbrev pub RunsOn : Running → Running → Machine → Option (List ℕ) → Option (List ℕ) → Type 0
RunsOn r later m old new = IsAtRun later m × Prints (stage_text (Some r)) (stage_text (Some later)) old new

abbrev pub RunsOnAt : Point → Point → Option Machine → Option (List ℕ) → Option (List ℕ) → Type 0
RunsOnAt p q m old new = StandsAt q.stage m × Prints (text_at p) (text_at q) old new

-- The part of a text that is written at a fault: all of it if memory ran out afterwards, a beginning if writing failed.
abbrev pub IsCutAt : SimFault → List ℕ → List ℕ → Type 0
IsCutAt OutOfMemory out part = part ≡ out
IsCutAt Write out part = IsBeginning part out
IsCutAt Read out part = ⊥

-- At a fault, this part of the text between two points was written.
abbrev pub PrintsPart : SimFault → List ℕ → List ℕ → Option (List ℕ) → Option (List ℕ) → Type 0
PrintsPart fault before after old new = (out part : List ℕ) × (after ≡ before ++ out) × IsCutAt fault out part × Appends old new part

-- The run was given up on its way to some point of `To`. If nothing meddled, the device didn't fail before that point.
abbrev pub GivesUp : Running → Type 0 → (Running → Type 0) → SimFault → Option (List ℕ) → Option (List ℕ) → Type 0
GivesUp r Unmeddled To fault old new =
    (later : Running) × To later × HasRun (Some later) × (Unmeddled → IsCalm later) × PrintsPart fault (stage_text (Some r)) (stage_text (Some later)) old new

abbrev pub GivesUpAt : Point → Type 0 → (Point → Type 0) → SimFault → Option (List ℕ) → Option (List ℕ) → Type 0
GivesUpAt p Unmeddled To fault old new =
    (q : Point) × To q × HasRun q.stage × (Unmeddled → IsCalmAt q.stage) × PrintsPart fault (text_at p) (text_at q) old new

-- how far a run may have come within a line
abbrev pub IsUnder : Running → Line → Running → Type 0
IsUnder r line later = (later ≡ r) ⊎ (Obeys r line later ⊎ ((xs : List Shown) × (line ≡ Drain) × FoldsTo IsDrained r xs later))

-- a text, followed by `out of memory` if that is the fault
abbrev pub with_memory_line : SimFault → List ℕ → List ℕ
with_memory_line OutOfMemory text = text ++ memory_text
with_memory_line Read text = text
with_memory_line Write text = text

-- What a step leaves that was given up: if memory ran out, nothing was written; if writing failed, the step was made
-- and a beginning of its text was written.
abbrev pub IsHalted : SimFault → Sizes → State → Event → State → Option (List ℕ) → Option (List ℕ) → Type 0
IsHalted OutOfMemory d s event t old new = new ≡ old
IsHalted Write d s event t old new =
    (x : Shown) × (sent : Option (List ℕ)) × IsPlayed d s event x sent t × (part : List ℕ) × IsBeginning part (reaction_text x) × Appends old new part
IsHalted Read d s event t old new = ⊥

-- What was written of a text that was given up: nothing if memory ran out, a beginning if writing failed.
abbrev pub IsPrintedInPart : SimFault → List ℕ → Option (List ℕ) → Option (List ℕ) → Type 0
IsPrintedInPart OutOfMemory text old new = new ≡ old
IsPrintedInPart Write text old new = (part : List ℕ) × IsBeginning part text × Appends old new part
IsPrintedInPart Read text old new = ⊥

-- Everything that the script's run prints up to this ending was written. If no line meddles, it reports no failure.
abbrev pub HasEnded : Option (List ℕ) → Option (List ℕ) → Option (List ℕ) → Ending → Type 0
HasEnded unread old new ending =
    IfSome unread (λ input. (text : List ℕ) × IsScriptText input text ending × (IsHarmlessScript input → HasNoFailure text) × Appends old new text)

-- What was written is the text of a run that was given up. If no line meddles, it reports no failure.
abbrev pub HasGivenUp : Option (List ℕ) → Option (List ℕ) → Option (List ℕ) → SimFault → Type 0
HasGivenUp unread old new fault =
    IfSome unread (λ input. (text : List ℕ) × IsCutText input text fault × (IsHarmlessScript input → HasNoFailure text) × Appends old new text)

-- The same, before the line `out of memory` has been written after the text.
abbrev pub IsGivingUp : Option (List ℕ) → Option (List ℕ) → Option (List ℕ) → SimFault → Type 0
IsGivingUp unread old new fault =
    IfSome unread (λ input. (text : List ℕ) × IsCutText input (with_memory_line fault text) fault × (IsHarmlessScript input → HasNoFailure (with_memory_line fault text)) × Appends old new text)
