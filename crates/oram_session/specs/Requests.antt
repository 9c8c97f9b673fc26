-- What a session asks of the core, and what it replies to the user.
use Rattle.std.specs.Prelude.{◌≡◌, ℕ, false, List, ◌⊎◌}
use Rattle.oram_wire.specs.SessionMessages.{session_request_body}
use Rattle.oram_wire.specs.SessionBodies.{names_session_request, IsSessionMisfit, HasAddress}
use Rattle.oram_wire.specs.declared.session_messages.SessionRequest.{SessionRequest}
use Rattle.oram_wire.specs.declared.session_messages.SessionRequest.TheVariants as request
use Rattle.oram_wire.specs.declared.session_messages.SessionReply.{SessionReply}
use Rattle.oram_wire.specs.declared.session_messages.SessionReply.TheVariants as reply
use Rattle.oram_semantics.specs.declared.events.Command.{Command}
use Rattle.oram_semantics.specs.declared.events.Command.TheVariants.{Read, Write, Discard}
use Rattle.oram_semantics.specs.declared.events.ReplyBody.{ReplyBody}
use Rattle.oram_semantics.specs.declared.events.ReplyBody.TheVariants as body

-- the body is that of this request
pub record IsRequest (body : List ℕ) (message : SessionRequest) : Type 0 where
  pub address : HasAddress message
  pub spells : body ≡ session_request_body message

-- the body is that of no request
abbrev pub IsNoRequest : List ℕ → Type 0
IsNoRequest body = (names_session_request body ≡ false) ⊎ IsSessionMisfit body

-- the command of a request
abbrev pub command_of : SessionRequest → Command
command_of (request.Read address) = Read address
command_of (request.Write address bytes) = Write address bytes
command_of (request.Discard address) = Discard address

-- a session's reply for a reply of the core: a failure becomes a refusal with code 6
abbrev pub session_reply : ReplyBody → SessionReply
session_reply (body.Data bytes) = reply.Data bytes
session_reply body.Done = reply.Done
session_reply body.Failed = reply.Refused 6
