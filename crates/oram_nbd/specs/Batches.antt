-- Requests that are carried out together.
use Rattle.std.specs.Prelude.{◌≡◌, ◌⊎◌, ℕ, ◌*◌, ◌<◌, ◌^◌, List, [], ◌∷◌, ◌++◌, All, Option, Some, None, length, map}
use Rattle.std.specs.List.{flat_map}
use Rattle.std.specs.Io.KnownBytes.{Appends, Consumes}
use Rattle.oram_nbd.specs.Beside.{GoesOn, HasArrays}
use Rattle.oram_nbd.specs.Calls.{SavesPart}
use Rattle.oram_nbd.specs.DeviceKind.{DeviceKind}
use Rattle.oram_nbd.specs.Streams.{IsBegunText}
use Rattle.oram_nbd.specs.Messages.{request_text, reply_text, SimpleReply}
use Rattle.oram_nbd.specs.Messages.SimpleReply.{Done, Refused}
use Rattle.oram_nbd.specs.Accesses.{range_of, touched_from}
use Rattle.oram_nbd.specs.Operations.{IsPartOf, IsWithin, done_by, given_by, read_len}
use Rattle.oram_nbd.specs.Service.{after, whole_request_of, whole_requests_text, given, given_len, refusal_of, replies_text, touched_len, AnsweredRequest, AreRequestsBegun, IsPartly, IsWholeRequest, SaysFailed, WholeRequest}
use Rattle.oram_nbd.specs.Transmission.{HasServedRequests, IsCutOff, IsLast}
use Rattle.oram_nbd.specs.declared.batches.Close.{Close}
use Rattle.oram_nbd.specs.declared.batches.Close.TheVariants.{Waits, NoRoom, Leaves, Breaks}
use Rattle.oram_nbd.specs.declared.faults.NbdError.{NbdError}
use Rattle.oram_nbd.specs.declared.faults.NbdError.TheVariants.{Io, NoMemory}
use Rattle.oram_nbd.specs.declared.faults.NbdFault.{NbdFault}
use Rattle.oram_nbd.specs.declared.faults.NbdFault.TheVariants as fault
use Rattle.oram_nbd.specs.declared.operations.Operation.{Operation}
use Rattle.oram_nbd.specs.declared.operations.Operation.TheVariants.{Read}
use Rattle.oram_nbd.specs.declared.requests.Request.{Request}

-- the sizes of a device: `size` bytes in blocks of `block` bytes
pub record AreDiskSizes (block size : ℕ) : Type 0 where
  pub some : 0 < block
  pub blocks : ℕ
  pub whole : block * blocks ≡ size
  pub bound : size < 2 ^ 63

-- The operation does what the request asks for, on a device of `size` bytes.
pub record DoesRequest (size : ℕ) (a : WholeRequest) (op : Operation) : Type 0 where
  pub within : IsWithin size op
  pub touches : range_of op ≡ touched_from a.request.offset (touched_len a.request.command a.request.length)
  pub does : (bytes : List ℕ) → done_by op bytes ≡ after a.request.command bytes a.request.offset a.request.length a.payload
  pub in_part : (old new : List ℕ) → IsPartOf op old new → IsPartly a.request.command old a.request.offset a.request.length a.payload new
  pub gives : (bytes : List ℕ) → given_by op bytes ≡ given a.request.command bytes a.request.offset a.request.length
  pub long : read_len op ≡ given_len a.request.command a.request.length

-- If the request is refused, its operation does nothing. Otherwise it does what the request asks for.
abbrev pub DoesIfAccepted : Option NbdError → ℕ → WholeRequest → Operation → Type 0
DoesIfAccepted (Some e) size a op = op ≡ Read 0 0
DoesIfAccepted None size a op = DoesRequest size a op

-- each request has its operation
abbrev pub AreServedBy : ℕ → List WholeRequest → List Operation → Type 0
AreServedBy size [] [] = Unit {0}
AreServedBy size [] (op ∷ ops) = ⊥
AreServedBy size (a ∷ arrived) [] = ⊥
AreServedBy size (a ∷ arrived) (op ∷ ops) = DoesIfAccepted (refusal_of size a.request) size a op × AreServedBy size arrived ops

-- the batch has these requests and operations for what the client sent
pub record AreCollected (size : ℕ) (arrived : List WholeRequest) (requests : List Request) (operations : List Operation) : Type 0 where
  pub all : All IsWholeRequest arrived
  pub same : map (λ a. a.request) arrived ≡ requests
  pub served : AreServedBy size arrived operations

-- how a batch ends, by what was read after it
abbrev pub EndsBy : Close → List ℕ → Option (List ℕ) → Type 0
EndsBy Waits part new = part ≡ []
EndsBy (NoRoom r) part new = (a : WholeRequest) × IsWholeRequest a × (a.request ≡ r) × (part ≡ request_text a.request ++ a.payload)
EndsBy Leaves part new = IsLast new part
EndsBy (Breaks f) part new = IsCutOff f part new

-- what was read after a batch and isn't handled yet, once the request that found no memory is refused
abbrev pub LeftBy : Close → List ℕ → Option (List ℕ) → Type 0
LeftBy Waits rest new = rest ≡ []
LeftBy (NoRoom r) rest new = rest ≡ []
LeftBy Leaves rest new = IsLast new rest
LeftBy (Breaks f) rest new = IsCutOff f rest new

-- At most one request after the batch found no memory. It is refused; `rest` is what follows it.
pub record IsWithoutMemory (close : Close) (part : List ℕ) (new : Option (List ℕ)) (arrived : List WholeRequest) (rest : List ℕ) : Type 0 where
  pub all : All IsWholeRequest arrived
  pub split : part ≡ whole_requests_text arrived ++ rest
  pub left : LeftBy close rest new

-- a batch was read
pub record HasGathered (size : ℕ) (requests : List Request) (operations : List Operation) (close : Close) (unread unread' : Option (List ℕ)) : Type 0 where
  pub arrived : List WholeRequest
  pub part : List ℕ
  pub collected : AreCollected size arrived requests operations
  pub read : Consumes unread unread' (whole_requests_text arrived ++ part)
  pub ends : EndsBy close part unread'

-- ---- replies

-- the error of a refused request, or else this reply
abbrev pub reply_if : Option NbdError → SimpleReply → SimpleReply
reply_if (Some e) reply = Refused e
reply_if None reply = reply

-- the reply to a request for which the device read this
abbrev pub reply_of : ℕ → Request → List ℕ → SimpleReply
reply_of size r bytes = reply_if (refusal_of size r) (Done bytes)

-- what the client receives for requests for which the device read these bytes
abbrev pub answers_text : ℕ → List Request → List (List ℕ) → List ℕ
answers_text size [] given = []
answers_text size (r ∷ requests) [] = []
answers_text size (r ∷ requests) (bytes ∷ given) = reply_text r.cookie (reply_of size r bytes) ++ answers_text size requests given

-- what the client receives if all requests are refused: each with its own error, or with this one if it has none
abbrev pub refusals_text : ℕ → List Request → NbdError → List ℕ
refusals_text size requests e = flat_map (λ r. reply_text r.cookie (reply_if (refusal_of size r) (Refused e))) requests

-- The error of requests for which the device isn't called: if it has failed, they are told so, and else that memory ran out.
pub record IsUncalled (failed : Type 0) (e : NbdError) : Type 0 where
  pub told : failed → e ≡ Io
  pub sound : e ≡ Io → failed
  pub either : (e ≡ Io) ⊎ (e ≡ NoMemory)

-- The result of a batch, for a device of this kind and of `size` bytes, which goes from one state to another.
module _ {D W E : Type 0} (kind : DeviceKind D W E) (size : ℕ) (old new : D) (arrived : List WholeRequest) where
  -- Each request of the batch got its reply. If a reply says that the device has failed, it has.
  pub record HasRepliedToAll (answered : List AnsweredRequest) : Type 0 where
    pub same : map whole_request_of answered ≡ arrived
    pub served : HasServedRequests kind size old new answered
    pub reported : SaysFailed answered → kind.failed new

  -- The device hadn't failed, and stopped at a batch in which at least one request isn't refused.
  pub record HasBegun : Type 0 where
    pub accepted : (before after : List WholeRequest) × (a : WholeRequest) × (arrived ≡ before ++ a ∷ after) × (refusal_of size a.request ≡ None)
    pub alive : kind.failed old → ⊥
    pub begun : GoesOn kind.had kind.hears (HasArrays kind.holds kind.kept) old
        (λ may_lie before later. AreRequestsBegun arrived before.held later.held × SavesPart (AreRequestsBegun arrived) before later) new

-- For a device of this kind, which goes from one state to another.
module _ {D W E : Type 0} (kind : DeviceKind D W E) (old new : D) (arrived : List WholeRequest) where
  -- All replies were written, or a beginning of them; or the device stopped, and nothing was written.
  abbrev pub EndsBatch : Option (List ℕ) → Option (List ℕ) → Type 0
  EndsBatch written written' = (answered : List AnsweredRequest) × HasRepliedToAll kind (kind.size old) old new arrived answered × Appends written written' (replies_text answered)

  abbrev pub BreaksBatch : NbdFault → Option (List ℕ) → Option (List ℕ) → Type 0
  BreaksBatch f written written' =
      ((f ≡ fault.Write) × ((answered : List AnsweredRequest) × HasRepliedToAll kind (kind.size old) old new arrived answered × IsBegunText written written' (replies_text answered)))
      ⊎ ((f ≡ fault.Stopped) × (HasBegun kind (kind.size old) old new arrived × (written' ≡ written)))
