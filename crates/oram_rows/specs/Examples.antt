-- An example that meets the premises of the law: a device of two blocks, whose tree has a root and two leaves. The root is near, the host has the
-- record of the left leaf alone, and the client makes that of the right one.
use Rattle.std.specs.Prelude.{◌≡◌, ℕ, List, [], ◌∷◌, Option, Some, None}
use Rattle.oram_wire.specs.HostMessages.{payload_answer}
use Rattle.oram_records.specs.Messages.{records_body, rows_text}
use Rattle.oram_records.specs.declared.request.RecordsRequest.{RecordsRequest}
use Rattle.oram_semantics.specs.Scheme.{record_len}
use Rattle.oram_near.specs.Completion.{ClientRecords}
use Rattle.oram_near.specs.Examples.{left_leaf, near_root, ones, two_blocks, zero_records, zeros}
use Rattle.oram_near.specs.Law.{AreWhole}
use Rattle.oram_near.specs.NearCalls.{client_of}
use Rattle.oram_rows.specs.Law.{HasLengths, stored_rows}
use Rattle.oram_rows.specs.Rows.{IsCompleted, IsOfDevice, records_answer}

-- the request for all three records
abbrev pub three_nodes : RecordsRequest
three_nodes = record { tree = 0; first = 0; count = 3 }

-- what the client has: the root's record is ones, and the formatting's records are zeros
abbrev pub root_client : ClientRecords
root_client = client_of zero_records (near_root left_leaf ones (0 ∷ []))

abbrev pub left_rows : List (Option (List ℕ))
left_rows = None ∷ Some ones ∷ None ∷ []

abbrev pub RowsExample : Type 0
RowsExample = ((records : ℕ → ℕ → List ℕ) × AreWhole two_blocks root_client left_leaf records) × HasLengths two_blocks left_leaf × IsOfDevice two_blocks.device (record_len two_blocks) three_nodes
    × (stored_rows left_leaf three_nodes ≡ left_rows)
    × IsCompleted root_client (records_body three_nodes) (payload_answer (rows_text left_rows)) (records_answer (ones ∷ ones ∷ zeros ∷ []))
