-- An example that meets the premises of the laws: a process that is about to read the one block of a device, over a host of levels that has no
-- record. Its FETCH goes ahead, and memory runs out before the core hears of the answer.
use Rattle.std.specs.Prelude.{◌≡◌, Bool, List, ℕ, [], ◌∷◌, Ok}
use Rattle.std.specs.List.{AllByRecursion}
use Rattle.oram_geometry.specs.Sizes.{IsDevice}
use Rattle.oram_host.specs.Host.{Host}
use Rattle.oram_wire.specs.HostMessages.{payload_answer}
use Rattle.oram_link_laws.specs.Examples.{new_host, one_block}
use Rattle.oram_link_laws.specs.Runs.{bodies_of}
use Rattle.oram_rounds.specs.Examples.{zero_array}
use Rattle.oram_rounds.specs.Law.{AreBatches}
use Rattle.oram_rounds.specs.Process.{Act, DoesAll, IsGoingOn, IsKept, IsSafe, Process, begun}
use Rattle.oram_rounds.specs.Process.Act.{GoesAhead, Misses}
use Rattle.oram_rounds.specs.ReadingExample.{reading_core, reads_only}
use Rattle.oram_near.specs.Examples.{LevelsBatches, Maker, device_of_one, len_of_one, link_over, maker_with, no_record, nothing_below, zero_records, zeros, zeros_given}
use Rattle.oram_near.specs.Law.{HaveSameRecords, IsBodyOf}
use Rattle.oram_near.specs.LevelsHost.{LevelsRun}
use Rattle.oram_near.specs.NearCalls.{FitsTogether, TakesUnsure, client_of}
use Rattle.oram_near_laws.specs.BesideLevels.{CompletesSide, NearBeside, NearSide}
use Rattle.oram_near_laws.specs.NextProcess.{UnsureAreAmong}

-- the process, whose keeper has kept these bytes
abbrev pub reading_over_levels : List ℕ → Process (NearSide Host Maker) (List ℕ)
reading_over_levels bytes = begun (link_over no_record, no_record) one_block [] reading_core bytes

abbrev pub reading_ahead : List Act
reading_ahead = GoesAhead zeros_given ∷ Misses (Ok (payload_answer zeros)) [] ∷ []

-- A host of whole paths that has the zeros of the formatting completes the host of levels, and over it the process is safe.
abbrev pub ReadingOverLevelsExample : Type 0
ReadingOverLevelsExample = AreBatches LevelsBatches × IsDevice one_block.device
    × CompletesSide zero_records device_of_one len_of_one one_block (link_over no_record, no_record) new_host
    × ((bytes : List ℕ)
    × ((may_lie : Bool) → IsSafe may_lie one_block reads_only (reading_over_levels bytes) new_host zero_array zero_array)
    × ((may_lie : Bool) → IsGoingOn may_lie one_block (reading_over_levels bytes) new_host zero_array)
    × ((may_lie : Bool) → DoesAll one_block (NearBeside LevelsBatches zero_records may_lie one_block) reads_only (reading_over_levels bytes) reading_ahead (reading_over_levels bytes)))

-- That process has kept itself and sent its FETCH. The next one begins with the same near records, and there are no STOREs to give to its link.
abbrev pub NextOverLevelsExample : Type 0
NextOverLevelsExample = CompletesSide zero_records device_of_one len_of_one one_block (link_over no_record, no_record) new_host
    × ((bytes : List ℕ)
    × ((may_lie : Bool) → (k : IsKept may_lie one_block [] bytes new_host zero_array zero_array) × (k.stores ≡ []) × (k.core ≡ reading_core))
    × ((other : List ℕ) → reads_only bytes other → other ≡ bytes))
    × UnsureAreAmong (link_over no_record) [] × FitsTogether device_of_one len_of_one (link_over no_record)
    × HaveSameRecords (client_of zero_records (link_over no_record)) (client_of zero_records (link_over no_record)) × TakesUnsure (link_over no_record) [] (link_over no_record)
    × AllByRecursion (IsBodyOf []) (bodies_of nothing_below) × ((may_lie : Bool) → LevelsRun one_block (zero_records (maker_with [])) may_lie no_record nothing_below no_record)
