-- The bodies that go to the bucket host and come back from it. All numbers are big-endian.
use Rattle.std.specs.Prelude.{ℕ, List, [], ◌∷◌, ◌++◌}
use Rattle.std.specs.Int.{w32, to_be_bytes}
use Rattle.oram_wire.specs.declared.host_messages.TheConstants.{GOOD, REFUSED}
use Rattle.oram_wire.specs.declared.host_messages.HostRequest.{HostRequest}
use Rattle.oram_wire.specs.declared.host_messages.HostRequest.TheVariants as request
use Rattle.oram_wire.specs.declared.host_messages.HostAnswer.{HostAnswer}
use Rattle.oram_wire.specs.declared.host_messages.HostAnswer.TheVariants as answer

-- FETCH asks for the records of a leaf's path
abbrev pub fetch_body : ℕ → ℕ → List ℕ
fetch_body tree leaf = (1 ∷ tree ∷ []) ++ to_be_bytes w32 leaf

-- STORE replaces the records of a leaf's path, given root first
abbrev pub store_body : ℕ → ℕ → List ℕ → List ℕ
store_body tree leaf records = (2 ∷ tree ∷ []) ++ to_be_bytes w32 leaf ++ records

-- PUT replaces the record of one node
abbrev pub put_body : ℕ → ℕ → List ℕ → List ℕ
put_body tree node bytes = (3 ∷ tree ∷ []) ++ to_be_bytes w32 node ++ bytes

-- SHAPE gives a tree its depth and the length of its records
abbrev pub shape_body : ℕ → ℕ → ℕ → List ℕ
shape_body tree depth record_len = (4 ∷ tree ∷ depth ∷ []) ++ to_be_bytes w32 record_len

-- the body of a request
abbrev pub request_body : HostRequest → List ℕ
request_body (request.Fetch tree leaf) = fetch_body tree leaf
request_body (request.Store tree leaf records) = store_body tree leaf records
request_body (request.Put tree node bytes) = put_body tree node bytes
request_body (request.Shape tree depth record_len) = shape_body tree depth record_len

-- the host gives what it was asked for
abbrev pub payload_answer : List ℕ → List ℕ
payload_answer bytes = GOOD ∷ bytes

-- the host has done what it was asked to do
abbrev pub done_answer : List ℕ
done_answer = payload_answer []

-- the host refuses, by a code
abbrev pub refusal_answer : ℕ → List ℕ
refusal_answer code = REFUSED ∷ code ∷ []

-- the host has no room
abbrev pub no_room_answer : List ℕ
no_room_answer = refusal_answer 8

-- the body of an answer
abbrev pub answer_body : HostAnswer → List ℕ
answer_body (answer.Payload bytes) = payload_answer bytes
answer_body answer.Done = done_answer
answer_body (answer.Refused code) = refusal_answer code
