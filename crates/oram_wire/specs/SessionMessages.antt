-- The bodies of the requests that a user sends in a session, and of the replies. All numbers are big-endian.
use Rattle.std.specs.Prelude.{ℕ, List, [], ◌∷◌, ◌++◌}
use Rattle.std.specs.Int.{w32, to_be_bytes}
use Rattle.oram_wire.specs.declared.session_messages.TheConstants.{DATA, DONE, REFUSED}
use Rattle.oram_wire.specs.declared.session_messages.SessionRequest.{SessionRequest}
use Rattle.oram_wire.specs.declared.session_messages.SessionRequest.TheVariants as request
use Rattle.oram_wire.specs.declared.session_messages.SessionReply.{SessionReply}
use Rattle.oram_wire.specs.declared.session_messages.SessionReply.TheVariants as reply

-- READ asks for the bytes of a block
abbrev pub read_body : ℕ → List ℕ
read_body address = 17 ∷ to_be_bytes w32 address

-- WRITE replaces the bytes of a block
abbrev pub write_body : ℕ → List ℕ → List ℕ
write_body address bytes = 18 ∷ to_be_bytes w32 address ++ bytes

-- DISCARD replaces the bytes of a block by zeros
abbrev pub discard_body : ℕ → List ℕ
discard_body address = 19 ∷ to_be_bytes w32 address

-- the body of a request
abbrev pub session_request_body : SessionRequest → List ℕ
session_request_body (request.Read address) = read_body address
session_request_body (request.Write address bytes) = write_body address bytes
session_request_body (request.Discard address) = discard_body address

-- the body of a reply
abbrev pub session_reply_body : SessionReply → List ℕ
session_reply_body (reply.Data bytes) = DATA ∷ bytes
session_reply_body reply.Done = DONE ∷ []
session_reply_body (reply.Refused code) = REFUSED ∷ code ∷ []
