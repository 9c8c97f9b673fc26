-- When a body can be read as a message of a session, and which fault it has otherwise.
use Rattle.std.specs.Prelude.{◌≡◌, ◌≢◌, ℕ, ◌<◌, ◌≤◌, ◌^◌, ◌⊎◌, ◌==◌, ◌&&◌, ◌||◌, if◌then◌else◌, nat_lt, nat_le, Bool, true, false, List, [], ◌∷◌, length, slice_index}
use Rattle.oram_wire.specs.declared.session_messages.TheConstants.{DATA, DONE, REFUSED}
use Rattle.oram_wire.specs.declared.session_messages.SessionRequest.{SessionRequest}
use Rattle.oram_wire.specs.declared.session_messages.SessionRequest.TheVariants as request
use Rattle.oram_wire.specs.declared.session_messages.SessionReply.{SessionReply}
use Rattle.oram_wire.specs.declared.session_messages.SessionReply.TheVariants as reply

-- the first byte names a request
abbrev pub names_session_request : List ℕ → Bool
names_session_request [] = false
names_session_request (op ∷ fields) = nat_lt 16 op && nat_lt op 20

-- the lengths that the body of a request with this first byte may have: WRITE has at least 5 bytes, READ and
-- DISCARD exactly 5
abbrev pub is_session_request_length : ℕ → ℕ → Bool
is_session_request_length op len = if op == 18 then nat_le 5 len else len == 5

-- the first byte names a request, but the length isn't one of such a request
abbrev pub IsSessionMisfit : List ℕ → Type 0
IsSessionMisfit body = (names_session_request body ≡ true) × (is_session_request_length
    (slice_index body 0) (length body) ≡ false)

-- the address of a request fits its four bytes
abbrev pub HasAddress : SessionRequest → Type 0
HasAddress (request.Read address) = address < 2 ^ 32
HasAddress (request.Write address bytes) = address < 2 ^ 32
HasAddress (request.Discard address) = address < 2 ^ 32

-- the first byte names a reply
abbrev pub names_session_reply : List ℕ → Bool
names_session_reply [] = false
names_session_reply (op ∷ fields) = op == DATA || op == DONE || op == REFUSED

-- "done" with bytes after it, or a refusal without its code or with bytes after the code
abbrev pub IsReplyMisfit : List ℕ → Type 0
IsReplyMisfit body = ((slice_index body 0 ≡ DONE) × (length body ≢ 1))
    ⊎ ((slice_index body 0 ≡ REFUSED) × (length body ≢ 2))

-- a refusal whose code is unknown
abbrev pub HasNoReplyCode : List ℕ → Type 0
HasNoReplyCode body = (code : ℕ) × (body ≡ REFUSED ∷ code ∷ []) × ((code ≡ 0) ⊎ (7 < code))

-- the daemon can give this reply: a code is from 1 to 7
abbrev pub IsSessionReply : SessionReply → Type 0
IsSessionReply (reply.Data bytes) = Unit {0}
IsSessionReply reply.Done = Unit {0}
IsSessionReply (reply.Refused code) = (1 ≤ code) × (code ≤ 7)
