-- An example that meets the premises of the laws about processes and their replies: a whole command. A read of the device's one
-- block is submitted and kept, the host answers its FETCH, the core sends its STORE, and the command has its reply.
use Rattle.std.specs.Prelude.{◌≡◌, ℕ, Bool, true, false, List, [], ◌∷◌, map, replicate, Ok, None}
use Rattle.std.specs.List.{flat_map}
use Rattle.sha2.specs.Sha256.{sha256}
use Rattle.oram_geometry.specs.Sizes.{IsDevice}
use Rattle.oram_wire.specs.HostMessages.{done_answer, payload_answer, store_body}
use Rattle.oram_semantics.specs.ArrayReplies.{reply_by}
use Rattle.oram_semantics.specs.Formatting.{IsFormatted}
use Rattle.oram_semantics.specs.Law.{new_state}
use Rattle.oram_semantics.specs.Progress.{Setting}
use Rattle.oram_semantics.specs.State.{State}
use Rattle.oram_semantics.specs.declared.events.Note.TheVariants.{Taken}
use Rattle.oram_tree.specs.State.{State as Tree}
use Rattle.oram_core.specs.PlainSteps.{Done, finished_by}
use Rattle.oram_session.specs.Links.{ToServer}
use Rattle.oram_link_laws.specs.Examples.{new_core, new_host, one_block}
use Rattle.oram_rounds.specs.CatchUp.{PlainRun}
use Rattle.oram_rounds.specs.Examples.{DirectBatches, zero_array, zeros_fetched}
use Rattle.oram_rounds.specs.Law.{AreBatches}
use Rattle.oram_rounds.specs.Process.{Act, DoesAll, IsGoingOn, IsSafe, Process, exchanges_of, replies_of}
use Rattle.oram_rounds.specs.Process.Act.{Calls, GoesAhead, Keeps}
use Rattle.oram_rounds.specs.ProcessSteps.{DoesSteps, ProcessStep}
use Rattle.oram_rounds.specs.ProcessSteps.ProcessStep.{Acts, Takes}
use Rattle.oram_rounds.specs.ReadingExample.{one_read, process_with, reading_core, reads, reads_kept, shown_in, zero_words}
use Rattle.oram_rounds.specs.Start.{AreSubmitted}
use Rattle.oram_process_laws.specs.KeptCommands.{ShowsNoPair}
use Rattle.oram_process_laws.specs.Lives.{IsRightRun, Lives, run_of}
use Rattle.oram_process_laws.specs.Replied.{IsReplyIn, given_by}

-- The record that the STORE brings. Its bucket has the block: the address 0 as 1, the leaf 0, and 16 zeros. After it are the
-- digests of no children.
abbrev pub stored_record : List ℕ
stored_record = 0 ∷ 0 ∷ 0 ∷ 1 ∷ replicate 84 0

abbrev pub block_store : List ℕ
block_store = store_body 0 0 stored_record

-- the core that has had the answer to its FETCH, and has sent the STORE
abbrev pub fetched_core : State
fetched_core = record {
  table = 1 ∷ [];
  trees = (record { number = 0; root = sha256 stored_record; stash = [] }) ∷ [];
  next = 1;
  nonce = 2;
  queue = one_read ∷ [];
  entry_number = 1;
  held_entry = 0;
  held_data = replicate 16 0;
  message = block_store;
  lost = false;
  failure = None;
}

abbrev pub stored : Done
stored = record { note = Taken; replies = []; sends = block_store ∷ []; state = fetched_core }

-- the core once it has the answer to the STORE, and has replied
abbrev pub finished : Done
finished = finished_by one_block fetched_core one_read []

-- The process keeps itself, and sends the FETCH ahead. The core asks for the FETCH and has its answer, then sends the STORE,
-- which the link answers at once.
abbrev pub whole_acts : List Act
whole_acts = Keeps true ∷ GoesAhead zeros_fetched ∷ Calls (Ok (payload_answer (replicate 88 0))) [] (shown_in stored)
    ∷ Calls (Ok done_answer) [] (shown_in finished) ∷ []

-- the process afterwards: the STORE waits at the link
abbrev pub whole_process : Process ToServer (List (List ℕ) × State)
whole_process =
    let p : Process ToServer (List (List ℕ) × State) = process_with finished.state reading_core in
    record p { link = record p.link { held = block_store ∷ [] } }

-- the same acts, after the submission
abbrev pub whole_steps : List ProcessStep
whole_steps = Takes reads ∷ map (λ (act : Act). Acts act) whole_acts

-- The command is submitted to the core of the device as it was formatted. The process is safe and goes on with the array of
-- zeros, over a server in memory, and replies with the zeros of the block. The first process of the device does these steps.
-- Its run is right, and no answer in it shows two records with the same digest. The reply is given, and is the array's reply to
-- this command.
abbrev pub WholeExample : Type 0
WholeExample = AreBatches DirectBatches × IsDevice one_block.device × AreSubmitted one_block zero_words 0 new_core (reads ∷ []) reading_core
    × ((may_lie : Bool) → IsSafe may_lie one_block reads_kept (process_with reading_core new_core) new_host zero_array zero_array)
    × ((may_lie : Bool) → IsGoingOn may_lie one_block (process_with reading_core new_core) new_host zero_array)
    × DoesAll one_block DirectBatches reads_kept (process_with reading_core new_core) whole_acts whole_process
    × ((may_lie : Bool) → PlainRun may_lie one_block new_host (flat_map exchanges_of whole_acts) new_host)
    × (flat_map replies_of whole_acts ≡ reply_by zero_array one_read ∷ [])
    × ((format : List (List ℕ)) × (trees : List Tree) × (let v : Setting = record { scheme = one_block; format = format } in
    IsFormatted v trees × Lives one_block DirectBatches reads_kept (new_state v trees) 0 (process_with new_core new_core)
    × DoesSteps one_block DirectBatches reads_kept (process_with new_core new_core) whole_steps whole_process
    × IsRightRun v trees (run_of whole_steps) finished.state
    × ShowsNoPair v [] (run_of whole_steps) × (given_by true whole_steps ≡ reply_by zero_array one_read ∷ [])
    × IsReplyIn one_block.device (one_read ∷ []) (reply_by zero_array one_read)))
