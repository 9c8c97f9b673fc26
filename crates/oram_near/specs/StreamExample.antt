-- An example of a batch whose answers are taken one by one, over the device of one block: a FETCH, and a STORE of ones behind it. The host has no
-- record at first.
use Rattle.std.specs.Prelude.{◌≤◌, ℕ, Bool, false, List, [], ◌∷◌, length, Ok, Err}
use Rattle.oram_geometry.specs.Sizes.{depth_of}
use Rattle.oram_levels.specs.Messages.{StoreLevels, fetch_levels_body, levels_payload, store_levels_body}
use Rattle.oram_wire.specs.HostMessages.{done_answer, fetch_body, payload_answer, store_body}
use Rattle.oram_host.specs.Host.{Host}
use Rattle.oram_session.specs.declared.link.LinkFault.TheVariants.{Closed}
use Rattle.oram_link_laws.specs.Examples.{new_host, one_block}
use Rattle.oram_link_laws.specs.Runs.{Exchange}
use Rattle.oram_rounds.specs.Batches.{BreaksOff, answered}
use Rattle.oram_rounds.specs.Law.{AreBatches}
use Rattle.oram_rounds.specs.Streams.{EndsAsBatch}
use Rattle.oram_near.specs.Examples.{LevelsBatches, Maker, device_of_one, len_of_one, link_over, maker_with, no_record, ones, ones_there, zero_records}
use Rattle.oram_near.specs.Law.{CompletesHost}
use Rattle.oram_near.specs.LevelsHost.{LevelsRun}
use Rattle.oram_near.specs.NearCalls.{FitsTogether, NearBatch, NearValue, client_of}
use Rattle.oram_near.specs.NearStreams.{NearStreams}

-- An honest host of levels has answered the first messages of a batch.
abbrev pub LevelsStreams : Host → List (List ℕ) → List (List ℕ) → Host → Type 0
LevelsStreams far bodies answers after = LevelsRun one_block (zero_records (maker_with [])) false far (answered bodies answers) after × (length answers ≤ length bodies)

abbrev pub fetch_message : List ℕ
fetch_message = fetch_levels_body 0 0 (depth_of one_block.device 0) 0

abbrev pub store_message : List ℕ
store_message = store_levels_body 0 0 0 ones

abbrev pub both_bodies : List (List ℕ)
both_bodies = fetch_body 0 0 ∷ store_body 0 0 ones ∷ []

-- the link once the batch is begun, once the FETCH is answered, and once the host has answered the STORE
abbrev pub begun_link : NearValue Host Maker
begun_link = record (link_over no_record) { unsure = StoreLevels 0 0 0 ones ∷ []; coming = record { fetches = fetch_message ∷ []; ready = [] } }

abbrev pub fetched_link : NearValue Host Maker
fetched_link = record begun_link { coming = record { fetches = []; ready = [] } }

abbrev pub heard_link : NearValue Host Maker
heard_link = link_over ones_there

-- The batch breaks off behind the FETCH's answer, and the host hasn't received the STORE.
abbrev pub stopped_below : List Exchange
stopped_below = (fetch_message, Ok (payload_answer (levels_payload 0 []))) ∷ (store_message, Err Closed) ∷ []

abbrev pub stopped_given : List Exchange
stopped_given = (store_body 0 0 ones, Err Closed) ∷ (fetch_body 0 0, Ok (payload_answer ones)) ∷ []

-- The FETCH is answered with the ones that the STORE has, though the host has no record.
abbrev pub StreamExample : Type 0
StreamExample = AreBatches LevelsBatches × EndsAsBatch LevelsBatches LevelsStreams
    × FitsTogether device_of_one len_of_one (link_over no_record)
    × CompletesHost one_block (client_of zero_records (link_over no_record)) no_record new_host
    × NearStreams LevelsBatches LevelsStreams zero_records (link_over no_record) both_bodies [] begun_link
    × NearStreams LevelsBatches LevelsStreams zero_records (link_over no_record) both_bodies (payload_answer ones ∷ []) fetched_link
    × NearStreams LevelsBatches LevelsStreams zero_records (link_over no_record) both_bodies (payload_answer ones ∷ done_answer ∷ []) heard_link
    × NearBatch LevelsBatches zero_records (link_over no_record) both_bodies (Err Closed) stopped_given stopped_below fetched_link
    × BreaksOff both_bodies (payload_answer ones ∷ []) stopped_given
    × ((may_lie : Bool) → LevelsRun one_block (zero_records (maker_with [])) may_lie no_record stopped_below no_record)
