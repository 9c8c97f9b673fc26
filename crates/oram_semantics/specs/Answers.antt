-- What the host's answer to a message means, given the records last stored at the host, by tree and node.
use Rattle.std.specs.Prelude.{ℕ, ◌+◌, ◌*◌, ◌==◌, ◌&&◌, not, Bool, false, if◌then◌else◌, List, [], length, drop, slice_index, Option, Some, None, Result, Ok, Err, find, nat_le}
use Rattle.std.specs.List.{flat_map}
use Rattle.std.specs.Option.{option_map_or}
use Rattle.std.specs.Str.{bytes_eq}
use Rattle.sha2.specs.Sha256.{sha256}
use Rattle.oram_geometry.specs.Sizes.{depth_of}
use Rattle.oram_geometry.specs.Path.{node_on}
use Rattle.oram_trace.specs.declared.entries.Entry.{Entry}
use Rattle.oram_hash.specs.declared.HashFault.{HashFault}
use Rattle.oram_hash.specs.declared.HashFault.TheVariants as fault
use Rattle.oram_hash.specs.Path.{Path, path_of, record_at, node_at}
use Rattle.oram_semantics.specs.Scheme.{Scheme, record_len}
use Rattle.oram_semantics.specs.Messages.{levels}
use Rattle.oram_semantics.specs.declared.events.Reason.{Reason}
use Rattle.oram_semantics.specs.declared.events.Reason.TheVariants.{Malformed, Tampered, HostRefused}
use Rattle.oram_wire.specs.HostMessages.{no_room_answer, payload_answer}
use Rattle.oram_wire.specs.declared.host_messages.TheConstants.{GOOD, REFUSED}

-- the records on the path of a leaf of tree i, root first
unfoldable pub path_in : Scheme → (ℕ → ℕ → List ℕ) → ℕ → ℕ → List ℕ
path_in v records i leaf = flat_map (λ level. records i (node_on (depth_of v.device i) leaf level)) (levels (depth_of v.device i))

-- the good answer to an entry: byte 0x80, and to a fetch the records of its path
unfoldable pub good_answer : Scheme → (ℕ → ℕ → List ℕ) → Entry → List ℕ
good_answer v records e = payload_answer (if e.fetch then path_in v records e.tree e.leaf else [])

-- the answer to a FETCH is byte 0x80 and as many bytes as the path has
abbrev pub is_payload : Scheme → Entry → List ℕ → Bool
is_payload v e bytes =
    e.fetch && (slice_index bytes 0 == GOOD) && (length bytes == 1 + (depth_of v.device e.tree + 1) * record_len v)

-- the path whose records such an answer gives
abbrev pub answered_path : Scheme → Entry → List ℕ → Path
answered_path v e bytes = path_of v.device e.tree e.leaf v.cipher.overhead (drop 1 bytes)

-- whether the record at this level of a path is the one last stored there
abbrev pub is_last_stored : (ℕ → List ℕ) → Path → ℕ → Bool
is_last_stored records p level = bytes_eq (record_at p level) (records (node_at p level))

-- the first level at which a path's record isn't the one last stored there
unfoldable pub first_other : (ℕ → List ℕ) → Path → Option ℕ
first_other records p = find (λ level. not (is_last_stored records p level)) (levels p.depth)

-- a refusal with a code from 1 to 7: byte 0x81 and the code
abbrev pub is_refusal : List ℕ → Bool
is_refusal bytes =
    (length bytes == 2) && (slice_index bytes 0 == REFUSED) && nat_le 1 (slice_index bytes 1) && nat_le (slice_index bytes 1) 7

abbrev pub reason_at : ℕ → Option ℕ → Reason
reason_at i None = Malformed
reason_at i (Some level) = Tampered i level

-- why an answer that isn't good fails the device
abbrev pub reason_for : Scheme → (ℕ → ℕ → List ℕ) → Entry → List ℕ → Reason
reason_for v records e bytes =
    if is_refusal bytes then HostRefused (slice_index bytes 1)
    else if is_payload v e bytes then reason_at e.tree (first_other (records e.tree) (answered_path v e bytes))
    else Malformed

pub data Outcome : Type 0 where
  Good : Outcome
  NoRoom : Outcome
  Fails : Reason → Outcome

-- what an answer to an entry means: it is good, or says with the code 8 that the host has no room, or fails the device
unfoldable pub outcome_of : Scheme → (ℕ → ℕ → List ℕ) → Entry → List ℕ → Outcome
outcome_of v records e bytes =
    if bytes_eq bytes (good_answer v records e) then Good
    else if bytes_eq bytes no_room_answer then NoRoom
    else Fails (reason_for v records e bytes)

-- what byte 0x80 and the records of a path mean as the answer to a FETCH in tree i, given the result of checking the
-- records
abbrev pub outcome_by : {A : Type 0} → ℕ → Result A HashFault → Outcome
outcome_by i (Ok path) = Good
outcome_by i (Err fault.Length) = Fails Malformed
outcome_by i (Err (fault.Tampered level)) = Fails (Tampered i level)

-- whether the record at this level of a path, and the one last stored there, have the same digest
abbrev pub has_one_digest : (ℕ → List ℕ) → Path → ℕ → Bool
has_one_digest records p level = bytes_eq (sha256 (record_at p level)) (sha256 (records (node_at p level)))

-- whether the first record of a payload that isn't the one last stored there has the same digest as that one
unfoldable pub pair_in : Scheme → (ℕ → ℕ → List ℕ) → Entry → List ℕ → Bool
pair_in v records e bytes =
    let p = answered_path v e bytes in
    is_payload v e bytes && option_map_or (has_one_digest (records e.tree) p) (first_other (records e.tree) p) false
