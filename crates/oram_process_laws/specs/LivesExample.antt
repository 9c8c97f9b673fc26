-- An example that meets the premises of the laws about lives and about kept commands: two processes over a server in memory,
-- with a device of one block.
use Rattle.std.specs.Prelude.{◌≡◌, ℕ, true, List, [], ◌∷◌, ◌++◌, map}
use Rattle.oram_geometry.specs.Sizes.{IsDevice}
use Rattle.oram_wire.specs.HostMessages.{fetch_body}
use Rattle.oram_semantics.specs.ArrayReplies.{reply_by}
use Rattle.oram_semantics.specs.Formatting.{IsFormatted}
use Rattle.oram_semantics.specs.Law.{new_state}
use Rattle.oram_semantics.specs.Progress.{Setting}
use Rattle.oram_tree.specs.State.{State as Tree}
use Rattle.oram_link_laws.specs.Examples.{new_core, one_block}
use Rattle.oram_rounds.specs.Examples.{DirectBatches, zero_array}
use Rattle.oram_rounds.specs.ReadingExample.{reading_acts, reading_core, one_read, process_with, reads, reads_kept}
use Rattle.oram_rounds.specs.Law.{AreBatches}
use Rattle.oram_process_laws.specs.KeptCommands.{ShowsNoPair}
use Rattle.oram_rounds.specs.ProcessSteps.{DoesSteps, ProcessStep}
use Rattle.oram_process_laws.specs.Lives.{IsRightRun, Lives, SubmitsNone, run_of}
use Rattle.oram_rounds.specs.ProcessSteps.ProcessStep.{Acts, Takes}
use Rattle.oram_process_laws.specs.Replied.{IsReplyIn}
use Rattle.oram_rounds.specs.Process.{Act, next_bodies}
use Rattle.oram_rounds.specs.Process.Act.{Keeps}

-- A read of the block is submitted to the first process, which keeps itself.
abbrev pub first_steps : List ProcessStep
first_steps = Takes reads ∷ Acts (Keeps true) ∷ []

-- The second one begins with its file, and acts.
abbrev pub second_steps : List ProcessStep
second_steps = map (λ (act : Act). Acts act) reading_acts

-- The run of both is right, and the array's reply to the command, zeros, is a reply in it.
abbrev pub TwoLivesExample : Type 0
TwoLivesExample = (format : List (List ℕ)) × (trees : List Tree) × (let v : Setting = record { scheme = one_block; format = format } in
    AreBatches DirectBatches × IsDevice one_block.device × IsFormatted v trees
    × DoesSteps one_block DirectBatches reads_kept (process_with new_core new_core) first_steps (process_with reading_core reading_core)
    × Lives one_block DirectBatches reads_kept (new_state v trees) 1 (process_with reading_core reading_core)
    × DoesSteps one_block DirectBatches reads_kept (process_with reading_core reading_core) second_steps (process_with reading_core reading_core)
    × IsRightRun v trees (run_of first_steps ++ run_of second_steps) reading_core
    × ShowsNoPair v [] (run_of first_steps ++ run_of second_steps) × SubmitsNone (run_of second_steps)
    × (next_bodies one_block.device reading_core ≡ fetch_body 0 0 ∷ [])
    × IsReplyIn one_block.device (one_read ∷ []) (reply_by zero_array one_read))
