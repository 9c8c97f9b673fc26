-- When a body can be read as a message to the host or an answer from it, and which fault it has otherwise.
use Rattle.std.specs.Prelude.{◌≡◌, ◌≢◌, ℕ, ◌<◌, ◌≤◌, ◌^◌, ◌⊎◌, ◌==◌, ◌&&◌, ◌||◌, if◌then◌else◌, nat_lt, nat_le, Bool, true, false, List, [], ◌∷◌, length, slice_index}
use Rattle.oram_wire.specs.declared.host_messages.TheConstants.{GOOD, REFUSED}
use Rattle.oram_wire.specs.declared.host_messages.HostRequest.{HostRequest}
use Rattle.oram_wire.specs.declared.host_messages.HostRequest.TheVariants as request
use Rattle.oram_wire.specs.declared.host_messages.HostAnswer.{HostAnswer}
use Rattle.oram_wire.specs.declared.host_messages.HostAnswer.TheVariants as answer
use Rattle.oram_wire.specs.declared.host_messages.HostView.{HostView}
use Rattle.oram_wire.specs.declared.host_messages.HostView.TheVariants as view
use Rattle.oram_wire.specs.HostMessages.{refusal_answer}

-- the request that a view borrows
abbrev pub request_of : HostView → HostRequest
request_of (view.Fetch tree leaf) = request.Fetch tree leaf
request_of (view.Store tree leaf records) = request.Store tree leaf records.now
request_of (view.Put tree node bytes) = request.Put tree node bytes.now
request_of (view.Shape tree depth record_len) = request.Shape tree depth record_len

-- the first byte names a request
abbrev pub names_request : List ℕ → Bool
names_request [] = false
names_request (op ∷ fields) = nat_lt 0 op && nat_lt op 5

-- the lengths that the body of a request with this first byte may have: FETCH has 6 bytes, SHAPE 7, STORE and
-- PUT at least 6
abbrev pub is_request_length : ℕ → ℕ → Bool
is_request_length op len = if op == 1 then len == 6 else if op == 4 then len == 7 else nat_le 6 len

-- the first byte names a request, but the length isn't one of such a request
abbrev pub IsMisfit : List ℕ → Type 0
IsMisfit body = (names_request body ≡ true) × (is_request_length (slice_index body 0)
    (length body) ≡ false)

-- the numbers of a request fit their four bytes
abbrev pub HasNumbers : HostRequest → Type 0
HasNumbers (request.Fetch tree leaf) = leaf < 2 ^ 32
HasNumbers (request.Store tree leaf records) = leaf < 2 ^ 32
HasNumbers (request.Put tree node bytes) = node < 2 ^ 32
HasNumbers (request.Shape tree depth record_len) = record_len < 2 ^ 32

-- the first byte names an answer
abbrev pub names_answer : List ℕ → Bool
names_answer [] = false
names_answer (op ∷ fields) = op == GOOD || op == REFUSED

-- a refusal without its code, or with bytes after the code
abbrev pub IsOverlong : List ℕ → Type 0
IsOverlong body = (slice_index body 0 ≡ REFUSED) × (length body ≢ 2)

-- a refusal whose code is unknown
abbrev pub HasNoCode : List ℕ → Type 0
HasNoCode body = (code : ℕ) × (body ≡ refusal_answer code) × ((code ≡ 0) ⊎ (8 < code))

-- the host can give this answer: a payload has at least one byte, and a code is from 1 to 8
abbrev pub IsAnswer : HostAnswer → Type 0
IsAnswer (answer.Payload bytes) = 0 < length bytes
IsAnswer answer.Done = Unit {0}
IsAnswer (answer.Refused code) = (1 ≤ code) × (code ≤ 8)
