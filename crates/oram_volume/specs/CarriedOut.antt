-- What a process does for its client, from the commands that it submits to their replies, or to where it stops.
use Rattle.std.specs.Prelude.{◌≡◌, ◌⊎◌, ℕ, ◌*◌, ◌<◌, Bool, true, false, List, [], ◌∷◌, ◌++◌, drop, length, map, take}
use Rattle.std.specs.List.{FoldsTo, flat_map}
use Rattle.oram_geometry.specs.Sizes.{trees_of}
use Rattle.oram_geometry.specs.declared.Sizes.{Sizes}
use Rattle.oram_semantics.specs.ArrayReplies.{array_after}
use Rattle.oram_semantics.specs.Blocks.{body_from}
use Rattle.oram_core.specs.declared.machine.TheConstants.{MOST_WAITING}
use Rattle.oram_semantics.specs.Events.{address_of}
use Rattle.oram_semantics.specs.Progress.Status.{Stalling}
use Rattle.oram_semantics.specs.Run.{is_accepted}
use Rattle.oram_semantics.specs.State.{status_in}
use Rattle.oram_semantics.specs.declared.events.Command.{Command}
use Rattle.oram_semantics.specs.declared.events.ReplyBody.{ReplyBody}
use Rattle.oram_link_laws.specs.Runs.{Exchange}
use Rattle.oram_rounds.specs.Batches.{BatchOutcome}
use Rattle.oram_rounds.specs.Process.{Act}
use Rattle.oram_rounds.specs.Process.Act.{Calls, GoesAhead, Hears, Keeps, Misses}
use Rattle.oram_rounds.specs.ProcessSteps.{DoesStep, ProcessStep, exchanges_in}
use Rattle.oram_rounds.specs.ProcessSteps.ProcessStep.{Acts, Takes}
use Rattle.oram_rounds.specs.Start.{SubmittedCommand}
use Rattle.oram_volume.specs.HeldArrays.{Running}

-- the replies of an array to commands, one after the other
abbrev pub bodies_from : Sizes → List Command → (ℕ → List ℕ) → List ReplyBody
bodies_from d [] array = []
bodies_from d (c ∷ commands) array = body_from (array (address_of c)) c ∷ bodies_from d commands (array_after d c array)

-- the array after these commands
abbrev pub after_commands : Sizes → List Command → (ℕ → List ℕ) → ℕ → List ℕ
after_commands d [] array = array
after_commands d (c ∷ commands) array = after_commands d commands (array_after d c array)

-- the array after the first ones of these commands: some, all or none
abbrev pub IsAfterFirst : Sizes → List Command → (ℕ → List ℕ) → (ℕ → List ℕ) → Type 0
IsAfterFirst d commands array later = (done rest : List Command) × (commands ≡ done ++ rest) × (later ≡ after_commands d done array)

-- Nothing goes to the host before every command that was taken is kept. `unkept` says that one may not be when the steps begin.
abbrev pub SendsKept : Bool → List ProcessStep → Type 0
SendsKept unkept [] = Unit {0}
SendsKept unkept (Takes a ∷ steps) = SendsKept true steps
SendsKept unkept (Acts (Hears event x) ∷ steps) = SendsKept unkept steps
SendsKept unkept (Acts (Calls o exchanges x) ∷ steps) = (unkept ≡ false) × SendsKept unkept steps
SendsKept unkept (Acts (Misses o exchanges) ∷ steps) = (unkept ≡ false) × SendsKept unkept steps
SendsKept unkept (Acts (GoesAhead exchanges) ∷ steps) = (unkept ≡ false) × SendsKept unkept steps
SendsKept unkept (Acts (Keeps true) ∷ steps) = SendsKept false steps
SendsKept unkept (Acts (Keeps false) ∷ steps) = SendsKept unkept steps

-- Blocks are cut into rounds of `most`, up to the last one, which has the rest.
abbrev pub AreRounds : ℕ → List ℕ → List (List ℕ) → Type 0
AreRounds most blocks [] = blocks ≡ []
AreRounds most blocks (round ∷ rounds) = (0 < length blocks) × (round ≡ take most blocks) × AreRounds most (drop most blocks) rounds

-- of a process with this relation of batches, and this read-back of its keeper
module _ {B K : Type 0} (batches : B → List (List ℕ) → BatchOutcome → List Exchange → B → Type 0) (reads_back : K → List ℕ → Type 0) where
  -- The process does a step. A command is submitted with the tape's words of the next ticket.
  abbrev pub TakesStep : Running B K → ProcessStep → Running B K → Type 0
  TakesStep p (Takes a) q =
      (q.scheme ≡ p.scheme) × (q.words ≡ p.words) × DoesStep p.scheme batches reads_back p.process (Takes a) q.process
      × (a.words ≡ p.words p.process.core.next (2 * trees_of p.scheme.device))
  TakesStep p (Acts act) q = (q.scheme ≡ p.scheme) × (q.words ≡ p.words) × DoesStep p.scheme batches reads_back p.process (Acts act) q.process

  -- it takes some steps, one after the other
  abbrev pub TakesSteps : Running B K → List ProcessStep → Running B K → Type 0
  TakesSteps p steps q = FoldsTo {P = Running B K} TakesStep p steps q

  -- The process takes some steps, and has these exchanges. It sends nothing before all commands that it has taken are kept: the
  -- next process reads them back, so it fetches no other paths for them.
  abbrev pub Had : Running B K → List Exchange → Running B K → Type 0
  Had p exchanges q = (steps : List ProcessStep) × TakesSteps p steps q × (flat_map exchanges_in steps ≡ exchanges) × SendsKept true steps

  -- A round: the process carries out what waits, takes a command on each of these blocks and no others, and carries them out.
  pub record AsksRound (p : Running B K) (blocks : List ℕ) (q : Running B K) : Type 0 where
    pub before : List Act
    pub taken : List SubmittedCommand
    pub after : List Act
    pub steps : TakesSteps p (map Acts before ++ map Takes taken ++ map Acts after) q
    pub same : map address_of (map (λ a. a.command) taken) ≡ blocks

  -- such rounds, one after the other
  abbrev pub AskRounds : Running B K → List (List ℕ) → Running B K → Type 0
  AskRounds p rounds q = FoldsTo {P = Running B K} {A = List ℕ} AsksRound p rounds q

  -- It does so for these blocks, in rounds that are as long as they can be.
  pub record AsksInRounds (p : Running B K) (blocks : List ℕ) (q : Running B K) : Type 0 where
    pub rounds : List (List ℕ)
    pub cut : AreRounds MOST_WAITING blocks rounds
    pub each : AskRounds p rounds q

  -- It takes some steps, and then a message has stalled, or the keeper has failed, or the core hasn't accepted a command.
  abbrev pub Stops : Running B K → Running B K → Type 0
  Stops p q = (steps : List ProcessStep) × TakesSteps p steps q
      × ((status_in q.process.core ≡ Stalling)
      ⊎ (((before : List ProcessStep) × (steps ≡ before ++ Acts (Keeps false) ∷ []))
      ⊎ ((before after : List ProcessStep) × (a : SubmittedCommand) × (is_accepted a.shown.note ≡ false) × (steps ≡ before ++ Takes a ∷ after))))
