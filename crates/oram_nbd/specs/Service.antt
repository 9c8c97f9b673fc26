-- The service of requests: each is answered as an array of bytes answers it.
use Rattle.std.specs.Prelude.{◌≡◌, ◌⊎◌, ℕ, ◌+◌, ◌<◌, List, [], ◌∷◌, ◌++◌, length, Option, Some, None, nat_lt, if◌then◌else◌}
use Rattle.std.specs.List.{flat_map}
use Rattle.oram_nbd.specs.Bytes.{bytes_at, written, zeroes, IsBegun}
use Rattle.oram_nbd.specs.Messages.{payload_len, request_text, reply_text, IsRequest, SimpleReply}
use Rattle.oram_nbd.specs.Messages.SimpleReply.{Done, Refused}
use Rattle.oram_nbd.specs.declared.TheConstants.{LONGEST_PAYLOAD}
use Rattle.oram_nbd.specs.declared.faults.NbdError.{NbdError}
use Rattle.oram_nbd.specs.declared.faults.NbdError.TheVariants.{Io, NoMemory, Invalid, NoSpace, Shutdown}
use Rattle.oram_nbd.specs.declared.requests.Command.{Command}
use Rattle.oram_nbd.specs.declared.requests.Command.TheVariants.{Read, Write, Disconnect, Flush, Trim, WriteZeroes, Other}
use Rattle.oram_nbd.specs.declared.requests.Request.{Request}

-- the greatest flags of a command: FUA for each, and NO_HOLE too where zeroes are written
abbrev pub greatest_flags : Command → ℕ
greatest_flags WriteZeroes = 3
greatest_flags _ = 1

-- the error `e` if the range doesn't lie within `size` bytes
abbrev pub outside : NbdError → ℕ → ℕ → ℕ → Option NbdError
outside e size at n = if nat_lt size (at + n) then Some e else None

-- Invalid if a request has more bytes than one may have, or else `error`
abbrev pub short : Option NbdError → ℕ → Option NbdError
short error n = if nat_lt LONGEST_PAYLOAD n then Some Invalid else error

-- why a command on a range of a device of `size` bytes is refused
abbrev pub misfit : Command → ℕ → ℕ → ℕ → Option NbdError
misfit Read size at n = short (outside Invalid size at n) n
misfit Write size at n = short (outside NoSpace size at n) n
misfit Disconnect size at n = None
misfit Flush size at n = None
misfit Trim size at n = outside Invalid size at n
misfit WriteZeroes size at n = outside NoSpace size at n
misfit (Other code) size at n = Some Invalid

-- why a request is refused, before the device is asked
abbrev pub refusal_of : ℕ → Request → Option NbdError
refusal_of size r = if nat_lt (greatest_flags r.command) r.flags then Some Invalid else misfit r.command size r.offset r.length

-- the bytes that a command returns from an array of bytes
abbrev pub given : Command → List ℕ → ℕ → ℕ → List ℕ
given Read bytes at n = bytes_at bytes at n
given _ bytes at n = []

-- their number
abbrev pub given_len : Command → ℕ → ℕ
given_len Read n = n
given_len _ n = 0

-- the array after the command; a trim leaves it as it is
abbrev pub after : Command → List ℕ → ℕ → ℕ → List ℕ → List ℕ
after Write bytes at n payload = written bytes at payload
after WriteZeroes bytes at n payload = written bytes at (zeroes n)
after _ bytes at n payload = bytes

-- how many bytes of an array a command reads or writes; a trim leaves all of them alone
abbrev pub touched_len : Command → ℕ → ℕ
touched_len Read n = n
touched_len Write n = n
touched_len WriteZeroes n = n
touched_len _ n = 0

-- the array if the device failed in the middle: the command was carried out up to some byte of its range
abbrev pub IsPartly : Command → List ℕ → ℕ → ℕ → List ℕ → List ℕ → Type 0
IsPartly Write old at n payload new = IsBegun old at payload new
IsPartly WriteZeroes old at n payload new = IsBegun old at (zeroes n) new
IsPartly _ old at n payload new = new ≡ old

-- the reply is that of the array of bytes, or an error
abbrev pub IsAnswer : List ℕ → Request → List ℕ → SimpleReply → List ℕ → Type 0
IsAnswer old r payload (Done bytes) new =
    (refusal_of (length old) r ≡ None) × (bytes ≡ given r.command old r.offset r.length) × (new ≡ after r.command old r.offset r.length payload)
IsAnswer old r payload (Refused e) new =
    ((refusal_of (length old) r ≡ Some e) × (new ≡ old))
    ⊎ ((refusal_of (length old) r ≡ None) × ((e ≡ Io) ⊎ ((e ≡ NoMemory) ⊎ (e ≡ Shutdown))) × IsPartly r.command old r.offset r.length payload new)

-- a reply that fits the request, whatever a device of `size` bytes holds
abbrev pub IsReply : ℕ → Request → SimpleReply → Type 0
IsReply size r (Done bytes) = (refusal_of size r ≡ None) × (length bytes ≡ given_len r.command r.length)
IsReply size r (Refused e) = (refusal_of size r ≡ Some e) ⊎ ((refusal_of size r ≡ None) × ((e ≡ Io) ⊎ ((e ≡ NoMemory) ⊎ (e ≡ Shutdown))))

-- a request, and the bytes after it
pub record WholeRequest : Type 0 where
  pub request : Request
  pub payload : List ℕ

-- a request and the bytes after it that can be sent
pub record IsWholeRequest (a : WholeRequest) : Type 0 where
  pub request : IsRequest a.request
  pub payload : length a.payload ≡ payload_len a.request.command a.request.length

-- the bytes begin with a whole request: its 28 bytes, and those of its write
pub record BeginsWithRequest (bytes : List ℕ) : Type 0 where
  pub first : WholeRequest
  pub whole : IsWholeRequest first
  pub rest : List ℕ
  pub split : bytes ≡ request_text first.request ++ first.payload ++ rest

-- what the client sends for these requests
abbrev pub whole_requests_text : List WholeRequest → List ℕ
whole_requests_text arrived = flat_map (λ a. request_text a.request ++ a.payload) arrived

-- the array after a request, and the array if the request was carried out up to some byte of its range; a refused request
-- leaves the array as it is
abbrev pub left_if : Option NbdError → List ℕ → List ℕ → List ℕ
left_if (Some e) old new = old
left_if None old new = new

abbrev pub array_after_request : WholeRequest → List ℕ → List ℕ
array_after_request a old = left_if (refusal_of (length old) a.request) old (after a.request.command old a.request.offset a.request.length a.payload)

-- the array after all of these requests, one after the other
abbrev pub array_after_requests : List WholeRequest → List ℕ → List ℕ
array_after_requests [] old = old
array_after_requests (a ∷ arrived) old = array_after_requests arrived (array_after_request a old)

-- how many bytes a request touches: one that is refused touches none
abbrev pub touched_if : Option NbdError → ℕ → ℕ
touched_if (Some e) n = 0
touched_if None n = n

-- at least one of these requests reads or writes a byte of a device of `size` bytes
abbrev pub RequestsTouchSomeByte : ℕ → List WholeRequest → Type 0
RequestsTouchSomeByte size [] = ⊥
RequestsTouchSomeByte size (a ∷ arrived) =
    (0 < touched_if (refusal_of size a.request) (touched_len a.request.command a.request.length)) ⊎ RequestsTouchSomeByte size arrived

abbrev pub IsLeftIf : Option NbdError → List ℕ → Type 0 → List ℕ → Type 0
IsLeftIf (Some e) old partly new = new ≡ old
IsLeftIf None old partly new = partly

abbrev pub IsLeftBy : WholeRequest → List ℕ → List ℕ → Type 0
IsLeftBy a old new = IsLeftIf (refusal_of (length old) a.request) old (IsPartly a.request.command old a.request.offset a.request.length a.payload new) new

-- The first of these requests are done, one may be done in part, and the others aren't begun.
abbrev pub AreRequestsBegun : List WholeRequest → List ℕ → List ℕ → Type 0
AreRequestsBegun [] old new = new ≡ old
AreRequestsBegun (a ∷ arrived) old new = IsLeftBy a old new ⊎ AreRequestsBegun arrived (array_after_request a old) new

-- a request, the bytes after it, and the reply to it
pub record AnsweredRequest : Type 0 where
  pub request : Request
  pub payload : List ℕ
  pub reply : SimpleReply

-- the request, without its reply
abbrev pub whole_request_of : AnsweredRequest → WholeRequest
whole_request_of a = record { request = a.request; payload = a.payload }

-- the reply fits the request, whatever the device holds
pub record IsReplied (size : ℕ) (a : AnsweredRequest) : Type 0 where
  pub request : IsRequest a.request
  pub payload : length a.payload ≡ payload_len a.request.command a.request.length
  pub reply : IsReply size a.request a.reply

-- this array of bytes answers the request with this reply, and becomes `new`
pub record IsAnsweredBy (old : List ℕ) (a : AnsweredRequest) (new : List ℕ) : Type 0 where
  pub request : IsRequest a.request
  pub payload : length a.payload ≡ payload_len a.request.command a.request.length
  pub answer : IsAnswer old a.request a.payload a.reply new

-- the array answers all of these requests, one after the other, and becomes `new`
abbrev pub IsService : List ℕ → List AnsweredRequest → List ℕ → Type 0
IsService old [] new = new ≡ old
IsService old (a ∷ answered) new = (mid : List ℕ) × IsAnsweredBy old a mid × IsService mid answered new

-- what the client sent, and what it was sent
abbrev pub asking : AnsweredRequest → List ℕ
asking a = request_text a.request ++ a.payload

abbrev pub replying : AnsweredRequest → List ℕ
replying a = reply_text a.request.cookie a.reply

abbrev pub requests_text : List AnsweredRequest → List ℕ
requests_text answered = flat_map asking answered

abbrev pub replies_text : List AnsweredRequest → List ℕ
replies_text answered = flat_map replying answered

-- no reply says that the device failed
abbrev pub NeverFails : List AnsweredRequest → Type 0
NeverFails [] = Unit {0}
NeverFails (a ∷ answered) = (a.reply ≡ Refused Io → ⊥) × NeverFails answered

-- the reply acknowledges nothing
abbrev pub IsRefusal : SimpleReply → Type 0
IsRefusal (Done bytes) = ⊥
IsRefusal (Refused e) = Unit {0}

-- some reply says that the device has failed
abbrev pub SaysFailed : List AnsweredRequest → Type 0
SaysFailed [] = ⊥
SaysFailed (a ∷ answered) = (a.reply ≡ Refused Io) ⊎ SaysFailed answered

-- A device that had failed says so: the reply to each request that isn't refused for its own sake is `EIO`. Only a device that
-- has failed says so.
pub record TellsFailure (size : ℕ) (had_failed has_failed : Type 0) (a : AnsweredRequest) : Type 0 where
  pub told : had_failed → refusal_of size a.request ≡ None → a.reply ≡ Refused Io
  pub sound : a.reply ≡ Refused Io → has_failed

-- A request that isn't refused for its own sake was carried out, or else it was refused with this error.
abbrev pub EndsWith : ℕ → Option NbdError → AnsweredRequest → Type 0
EndsWith size None a = refusal_of size a.request ≡ None → IsRefusal a.reply → ⊥
EndsWith size (Some e) a = refusal_of size a.request ≡ None → a.reply ≡ Refused e

-- some reply says that the device has failed, that memory ran out, or that the request was given up
abbrev pub SaysFault : List AnsweredRequest → Type 0
SaysFault [] = ⊥
SaysFault (a ∷ answered) = ((a.reply ≡ Refused Io) ⊎ ((a.reply ≡ Refused NoMemory) ⊎ (a.reply ≡ Refused Shutdown))) ⊎ SaysFault answered

-- Once the device has failed, before these requests or at one of them whose reply says so, no reply acknowledges anything.
abbrev pub FailsForGood : Type 0 → List AnsweredRequest → Type 0
FailsForGood failed [] = Unit {0}
FailsForGood failed (a ∷ answered) = (failed → IsRefusal a.reply) × FailsForGood (failed ⊎ (a.reply ≡ Refused Io)) answered
