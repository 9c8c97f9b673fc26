-- The message that asks for the records of nodes in a row, and what answers it. All numbers are big-endian.
use Rattle.std.specs.Prelude.{◌≡◌, ◌≢◌, ℕ, ◌<◌, ◌^◌, List, [], ◌∷◌, ◌++◌, length, Option, Some, None}
use Rattle.std.specs.List.{flat_map}
use Rattle.std.specs.Int.{w32, to_be_bytes}
use Rattle.oram_records.specs.declared.request.RecordsRequest.{RecordsRequest}

-- the body of a request for the records that the host has now
abbrev pub records_body : RecordsRequest → List ℕ
records_body r = (5 ∷ 0 ∷ r.tree ∷ []) ++ to_be_bytes w32 r.first ++ to_be_bytes w32 r.count

-- the first byte names this message
abbrev pub names_records : List ℕ → Type 0
names_records body = (fields : List ℕ) × (body ≡ 5 ∷ fields)

-- the first byte names this message, but the body isn't that of a request for the records that the host has now
abbrev pub IsMisfit : List ℕ → Type 0
IsMisfit body = (fields : List ℕ) × (body ≡ 5 ∷ fields) × ((rest : List ℕ) → fields ≡ 0 ∷ rest → length rest ≢ 9)

-- the numbers of a request fit their four bytes
abbrev pub HasNumbers : RecordsRequest → Type 0
HasNumbers r = (r.first < 2 ^ 32) × (r.count < 2 ^ 32)

-- the row of a node: 0, or 1 and the node's record
abbrev pub row_text : Option (List ℕ) → List ℕ
row_text None = 0 ∷ []
row_text (Some r) = 1 ∷ r

-- the rows of nodes in a row, which are the payload of an answer
abbrev pub rows_text : List (Option (List ℕ)) → List ℕ
rows_text rows = flat_map row_text rows
