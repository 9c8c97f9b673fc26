-- What a reading of a tree asks of the host. It depends on the tree's number, its depth and the length of its records alone.
use Rattle.std.specs.Prelude.{◌≡◌, ℕ, ◌+◌, ◌-◌, ◌*◌, ◌/◌, ◌^◌, ◌<◌, ◌≤◌, min, List, map}
use Rattle.std.specs.Int.{div_ceil}
use Rattle.std.specs.List.{range_with_len}
use Rattle.oram_records.specs.Messages.{records_body}
use Rattle.oram_scan.specs.Scan.{node_count}
use Rattle.oram_export.specs.declared.batches.Requests.{Requests}

-- the greatest number of rows, of records with this length, that fit behind the first byte of an answer of 1 MiB
abbrev pub rows_in : ℕ → ℕ
rows_in record_len = 1048575 / (record_len + 1)

-- the requests for all records of a tree
abbrev pub requests_for : ℕ → ℕ → ℕ → Requests
requests_for tree depth record_len = record { tree = tree; nodes = node_count depth; most = rows_in record_len }

-- how many requests these are
abbrev pub request_count : Requests → ℕ
request_count r = div_ceil r.nodes r.most

-- request k asks for the nodes after those of the requests before it
abbrev pub request_at : Requests → ℕ → List ℕ
request_at r k = records_body (record { tree = r.tree; first = k * r.most; count = min r.most (r.nodes - k * r.most) })

-- how many batches these are, of 16 requests
abbrev pub batch_count : Requests → ℕ
batch_count r = div_ceil (request_count r) 16

-- batch b has the next 16 requests, or those that are left
unfoldable pub batch_at : Requests → ℕ → List (List ℕ)
batch_at r b = map (request_at r) (range_with_len (b * 16) (min 16 (request_count r - b * 16)))

-- all requests for the records of a tree, in batches
abbrev pub batches_of : Requests → List (List (List ℕ))
batches_of r = map (batch_at r) (range_with_len 0 (batch_count r))

-- the numbers of such requests fit the message
pub record IsRequests (r : Requests) : Type 0 where
  pub some : 0 < r.most
  pub few : r.most < 2 ^ 20
  pub nodes : r.nodes < 2 ^ 25

-- the link is asked to send batch b ahead, if there is one
pub record AsksNext {B : Type 0} (asks : B → List (List ℕ) → B → Type 0) (r : Requests) (b : ℕ) (l : B) (bodies : List (List ℕ)) (m : B) : Type 0 where
  pub next : b < batch_count r → (bodies ≡ batch_at r b) × asks l bodies m
  pub none : batch_count r ≤ b → m ≡ l
