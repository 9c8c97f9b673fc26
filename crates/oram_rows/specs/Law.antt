-- What a completed answer is: that of a host which has the record of each node.
use Rattle.std.specs.Prelude.{◌≡◌, ℕ, ◌<◌, List, map, Option, IfSome, length}
use Rattle.std.specs.List.{range_with_len}
use Rattle.oram_geometry.specs.Sizes.{trees_of}
use Rattle.oram_wire.specs.HostMessages.{payload_answer}
use Rattle.oram_host.specs.Host.{Host}
use Rattle.oram_host.specs.Swaps.{stored_at}
use Rattle.oram_semantics.specs.Scheme.{Scheme, record_len}
use Rattle.oram_records.specs.Messages.{records_body, rows_text}
use Rattle.oram_records.specs.declared.request.RecordsRequest.{RecordsRequest}
use Rattle.oram_near.specs.Completion.{ClientRecords}
use Rattle.oram_near.specs.Law.{AreWhole}
use Rattle.oram_rows.specs.Rows.{IsCompleted, IsOfDevice, records_answer}

-- the records that a host has of the nodes that a request names
abbrev pub stored_rows : Host → RecordsRequest → List (Option (List ℕ))
stored_rows host r = map (stored_at host r.tree) (range_with_len r.first r.count)

-- a record for each of these nodes
abbrev pub all_records : (ℕ → ℕ → List ℕ) → RecordsRequest → List (List ℕ)
all_records records r = map (records r.tree) (range_with_len r.first r.count)

-- the records that the host has of the device's trees are of the device's length
abbrev pub HasLengths : Scheme → Host → Type 0
HasLengths v host = (tree node : ℕ) → tree < trees_of v.device → IfSome (stored_at host tree node) (λ stored. length stored ≡ record_len v)

-- These are the records of the whole paths: the near records, what the host has, and the records of the formatting. If the host answers a
-- request by what it has, the completed answer is that of a host with these records.
abbrev pub CompletedAnswersAreWhole : Type 0
CompletedAnswersAreWhole = (v : Scheme) (c : ClientRecords) (far : Host) (records : ℕ → ℕ → List ℕ) (r : RecordsRequest) (given : List ℕ)
    → c.device ≡ v.device → c.near.record_len ≡ record_len v → AreWhole v c far records → HasLengths v far → IsOfDevice v.device (record_len v) r
    → IsCompleted c (records_body r) (payload_answer (rows_text (stored_rows far r))) given
    → given ≡ records_answer (all_records records r)
