-- An example that meets the premises of the laws about processes: a read of the device's one block is submitted to a process,
-- which keeps itself and sends its FETCH ahead.
use Rattle.std.specs.Prelude.{◌≡◌, ℕ, Bool, true, List, [], ◌∷◌, replicate, Ok}
use Rattle.std.specs.List.{FoldsTo, flat_map}
use Rattle.oram_geometry.specs.Sizes.{IsDevice}
use Rattle.oram_wire.specs.HostMessages.{payload_answer}
use Rattle.oram_semantics.specs.Run.{Shown}
use Rattle.oram_semantics.specs.State.{State}
use Rattle.oram_semantics.specs.declared.events.Command.TheVariants.{Read}
use Rattle.oram_semantics.specs.declared.events.Event.TheVariants.{Reopen, Retry}
use Rattle.oram_semantics.specs.declared.events.Submission.{Submission}
use Rattle.oram_core.specs.Core.{IsSound}
use Rattle.oram_core.specs.PlainSteps.{Done, accepted_by, resent_by, stalled_by}
use Rattle.oram_session.specs.Links.{ToServer}
use Rattle.oram_link_laws.specs.Examples.{new_core, new_host, new_server, one_block}
use Rattle.oram_link_laws.specs.Runs.{bodies_of}
use Rattle.oram_rounds.specs.AheadInTurn.{IsAheadInTurn}
use Rattle.oram_rounds.specs.CatchUp.{PlainRun}
use Rattle.oram_rounds.specs.Examples.{DirectBatches, zero_array, zeros_fetched}
use Rattle.oram_rounds.specs.Files.{IsFile}
use Rattle.oram_rounds.specs.Law.{AreBatches}
use Rattle.oram_rounds.specs.Process.{Act, DoesAll, EndsIn, IsGoingOn, IsKept, IsSafe, Process, begun, exchanges_of, next_bodies}
use Rattle.oram_rounds.specs.Process.Act.{GoesAhead, Hears, Keeps, Misses}
use Rattle.oram_rounds.specs.Start.{AreSubmitted, SubmittedCommand, Submits}

-- what a core shows
abbrev pub shown_in : Done → Shown
shown_in d = record { note = d.note; replies = d.replies; sends = d.sends }

-- a command that reads the block, and the core that has accepted it and sends a FETCH
abbrev pub one_read : Submission
one_read = record { session = 0; ticket = 0; command = Read 0; words = 0 ∷ 0 ∷ [] }

abbrev pub reads : SubmittedCommand
reads = record { session = 0; command = Read 0; words = 0 ∷ 0 ∷ []; shown = shown_in (accepted_by one_block new_core one_read) }

abbrev pub reading_core : State
reading_core = (accepted_by one_block new_core one_read).state

-- a tape of zeros
abbrev pub zero_words : ℕ → ℕ → List ℕ
zero_words ticket count = replicate count 0

-- a keeper, given by the STOREs and the core that it has kept
abbrev pub reads_kept : List (List ℕ) × State → List ℕ → Type 0
reads_kept kept bytes = IsFile one_block bytes kept.0 kept.1

-- a process with the core `core`, whose keeper has kept the core `kept`
abbrev pub process_with : State → State → Process ToServer (List (List ℕ) × State)
process_with core kept = begun new_server one_block [] core ([], kept)

-- The process counts its FETCH as lost, sends it ahead once it has kept itself, and memory runs out before the core, which asks
-- for it, hears of the answer.
abbrev pub reading_acts : List Act
reading_acts = Hears Reopen (shown_in (stalled_by reading_core)) ∷ Hears Retry (shown_in (resent_by (stalled_by reading_core).state))
    ∷ Keeps true ∷ GoesAhead zeros_fetched ∷ Misses (Ok (payload_answer (replicate 88 0))) [] ∷ []

-- such bytes, and no others, are read back
abbrev pub reads_only : List ℕ → List ℕ → Type 0
reads_only kept bytes = bytes ≡ kept

-- The command is submitted to a process that is safe. It does these acts, over a server in memory; and it may end while the
-- FETCH goes ahead, with the file that it has kept.
abbrev pub ReadingProcessExample : Type 0
ReadingProcessExample = AreBatches DirectBatches × IsDevice one_block.device
    × AreSubmitted one_block zero_words 0 new_core (reads ∷ []) reading_core
    × FoldsTo {P = Process ToServer (List (List ℕ) × State)} (Submits one_block) (process_with new_core new_core) (reads ∷ []) (process_with reading_core new_core)
    × ((may_lie : Bool) → IsSafe may_lie one_block reads_kept (process_with new_core new_core) new_host zero_array zero_array)
    × ((may_lie : Bool) → IsGoingOn may_lie one_block (process_with reading_core new_core) new_host zero_array)
    × IsSound one_block.device 0 reading_core × IsAheadInTurn one_block.device reading_core (process_with reading_core new_core).link
    × DoesAll one_block DirectBatches reads_kept (process_with reading_core new_core) reading_acts (process_with reading_core reading_core)
    × ((may_lie : Bool) → PlainRun may_lie one_block new_host (flat_map exchanges_of reading_acts) new_host)
    × (next_bodies one_block.device reading_core ≡ bodies_of zeros_fetched)
    × ((bytes : List ℕ) × IsFile one_block bytes [] reading_core
    × EndsIn one_block DirectBatches reads_kept (process_with reading_core reading_core) (GoesAhead zeros_fetched) bytes zeros_fetched
    × ((may_lie : Bool) → (k : IsKept may_lie one_block [] bytes new_host zero_array zero_array) × (k.stores ≡ []) × (k.core ≡ reading_core))
    × ((other : List ℕ) → reads_only bytes other → other ≡ bytes))
