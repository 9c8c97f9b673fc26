-- Examples that meet the premises of the laws: a device of one block, whose tree has one node, over a server in memory.
use Rattle.std.specs.Prelude.{ℕ, Bool, List, [], ◌∷◌, replicate, Ok, ⊤, true}
use Rattle.oram_geometry.specs.Sizes.{IsDevice}
use Rattle.oram_wire.specs.HostMessages.{done_answer, fetch_body, payload_answer, store_body}
use Rattle.oram_host.specs.Host.{Host}
use Rattle.oram_session.specs.Links.{DirectCall, ToServer}
use Rattle.oram_link_laws.specs.Examples.{new_core, new_host, new_server, one_block}
use Rattle.oram_link_laws.specs.Runs.{Exchange, IsHeldBy, LinkRun}
use Rattle.oram_rounds.specs.Batches.{BatchOutcome, IsBatch}
use Rattle.oram_rounds.specs.CatchUp.{CatchesUp, PlainRun}
use Rattle.oram_rounds.specs.Files.{IsFile}
use Rattle.oram_rounds.specs.Law.{AreAhead, AreBatches, IsStocked}
use Rattle.oram_rounds.specs.Process.{DoesAll, IsGoingOn, IsSafe, Process, begun}
use Rattle.oram_rounds.specs.Process.Act.{Keeps}
use Rattle.oram_rounds.specs.Rounds.{Round, RoundCall, WentAhead, waiting}

-- batches over a server in memory, one message after the other
abbrev pub DirectBatches : ToServer → List (List ℕ) → BatchOutcome → List Exchange → ToServer → Type 0
DirectBatches l bodies o exchanges m = LinkRun DirectCall l exchanges m × IsBatch bodies o exchanges

-- The server keeps a record of zeros, and a STORE of ones waits.
abbrev pub one_waits : Round ToServer
one_waits = record {
  inner = new_server;
  device = one_block.device;
  record_len = 88;
  kept = [];
  held = store_body 0 0 (replicate 88 1) ∷ [];
  ahead = [];
  faults = 0;
}

-- the server gives the zeros
abbrev pub zeros_fetched : List Exchange
zeros_fetched = (fetch_body 0 0, Ok (payload_answer (replicate 88 0))) ∷ []

-- the same, once the FETCH has gone ahead
abbrev pub one_ahead : Round ToServer
one_ahead = record one_waits { ahead = zeros_fetched }

-- the same STORE, once it is kept, so that it may leave
abbrev pub one_kept : Round ToServer
one_kept = record one_waits { kept = store_body 0 0 (replicate 88 1) ∷ []; held = [] }

-- the FETCH goes ahead of it, and the server gives the zeros
abbrev pub stored_behind : List Exchange
stored_behind = (fetch_body 0 0, Ok (payload_answer (replicate 88 0))) ∷ (store_body 0 0 (replicate 88 1), Ok done_answer) ∷ []

-- the server has carried out the STORE then, and the ones are ahead
abbrev pub ones_ahead : ToServer → Round ToServer
ones_ahead after = record one_kept { inner = after; kept = []; ahead = (fetch_body 0 0, Ok (payload_answer (replicate 88 1))) ∷ [] }

-- the connection breaks before the server answers the STORE: the ones are ahead then, too, and the STORE is still kept
abbrev pub ones_unsettled : Round ToServer
ones_unsettled = record one_kept { ahead = (fetch_body 0 0, Ok (payload_answer (replicate 88 1))) ∷ [] }

-- Once the STORE is carried out, the host keeps the ones; so the FETCH is answered with the ones, even if it went ahead.
abbrev pub OneWaitsExample : Type 0
OneWaitsExample = AreBatches DirectBatches
    × ((later : Host) × CatchesUp one_block new_host (waiting one_waits) later × IsStocked one_block later)
    × RoundCall DirectBatches one_waits (fetch_body 0 0) (Ok (payload_answer (replicate 88 1))) zeros_fetched one_waits
    × ((may_lie : Bool) → PlainRun may_lie one_block new_host zeros_fetched new_host)
    × WentAhead DirectBatches one_waits (fetch_body 0 0 ∷ []) zeros_fetched one_ahead
    × ((may_lie : Bool) → AreAhead may_lie one_block new_host one_waits × AreAhead may_lie one_block new_host one_ahead)
    × RoundCall DirectBatches one_ahead (fetch_body 0 0) (Ok (payload_answer (replicate 88 1))) [] one_waits
    × ((after : ToServer) × WentAhead DirectBatches one_kept (fetch_body 0 0 ∷ []) stored_behind (ones_ahead after)
    × ((may_lie : Bool) → PlainRun may_lie one_block new_host stored_behind after.host))
    × WentAhead DirectBatches one_kept (fetch_body 0 0 ∷ []) zeros_fetched ones_unsettled

-- what may be read back is a file of the new core
abbrev pub is_new_file : ⊤ → List ℕ → Type 0
is_new_file keeper bytes = IsFile one_block bytes [] new_core

-- a process that begins with the core of the device as it was formatted
abbrev pub new_process : Process ToServer ⊤
new_process = begun new_server one_block [] new_core tt

abbrev pub zero_array : ℕ → List ℕ
zero_array a = replicate 16 0

-- It is safe, the server keeps what its core holds, and it keeps itself.
abbrev pub NewProcessExample : Type 0
NewProcessExample = AreBatches DirectBatches × IsDevice one_block.device × IsHeldBy one_block new_core new_host zero_array
    × ((may_lie : Bool) → IsSafe may_lie one_block is_new_file new_process new_host zero_array zero_array) × ((may_lie : Bool) → IsGoingOn may_lie one_block new_process new_host zero_array)
    × DoesAll one_block DirectBatches is_new_file new_process (Keeps true ∷ []) new_process
    × ((may_lie : Bool) → PlainRun may_lie one_block new_host [] new_host)
