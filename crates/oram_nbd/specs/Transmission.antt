-- What is read and written while requests are served, up to their end or a fault.
use Rattle.std.specs.Prelude.{◌≡◌, ◌⊎◌, ℕ, ◌<◌, false, List, [], ◌∷◌, ◌++◌, length, map, take, Option, None, All}
use Rattle.std.specs.List.{FoldsTo, flat_map}
use Rattle.std.specs.Io.KnownBytes.{Appends, Consumes, IsAtEnd}
use Rattle.oram_nbd.specs.Accesses.{AsksFor, request_calls}
use Rattle.oram_nbd.specs.Beside.{GoesOn, Arrays, HasArrays}
use Rattle.oram_nbd.specs.Calls.{SavesAll, SavesPart}
use Rattle.oram_nbd.specs.DeviceKind.{DeviceKind}
use Rattle.oram_nbd.specs.Messages.{payload_len, request_text, IsRequest}
use Rattle.oram_nbd.specs.Service.{array_after_requests, whole_request_of, whole_requests_text, refusal_of, requests_text, replies_text, AnsweredRequest, AreRequestsBegun, EndsWith, FailsForGood, IsRefusal, IsReplied, IsService, IsWholeRequest, NeverFails, RequestsTouchSomeByte, SaysFault, TellsFailure, WholeRequest}
use Rattle.oram_nbd.specs.Streams.{Streams}
use Rattle.oram_nbd.specs.declared.faults.NbdError.{NbdError}
use Rattle.oram_nbd.specs.declared.faults.NbdFault.{NbdFault}
use Rattle.oram_nbd.specs.declared.faults.NbdFault.TheVariants.{Read, Truncated, Magic, Write, UnknownFlags, UnknownExport, TooManyOptions, OutOfMemory, Stopped}
use Rattle.oram_nbd.specs.declared.requests.Command.TheVariants.{Disconnect}
use Rattle.oram_nbd.specs.declared.requests.Request.{Request}

-- less than a whole request: some of its 28 bytes, or all of these and some of the bytes of its write
abbrev pub IsUnfinished : List ℕ → Type 0
IsUnfinished part =
    (length part < 28)
    ⊎ ((r : Request) × (bytes : List ℕ) × IsRequest r × (length bytes < payload_len r.command r.length) × (part ≡ request_text r ++ bytes))

-- 28 bytes that aren't a request
abbrev pub IsNoRequest : List ℕ → Type 0
IsNoRequest part = (length part ≡ 28) × ((r : Request) → IsRequest r → part ≡ request_text r → ⊥)

-- how the requests end: with the end of the input, or a DISC
abbrev pub IsLast : Option (List ℕ) → List ℕ → Type 0
IsLast new last =
    ((last ≡ []) × IsAtEnd new) ⊎ ((r : Request) × IsRequest r × (r.command ≡ Disconnect) × (last ≡ request_text r))

-- what was read before a fault of the input
abbrev pub IsCutOff : NbdFault → List ℕ → Option (List ℕ) → Type 0
IsCutOff Read part new = IsUnfinished part
IsCutOff Truncated part new = IsUnfinished part × (0 < length part) × IsAtEnd new
IsCutOff Magic part new = IsNoRequest part
IsCutOff Write part new = ⊥
IsCutOff UnknownFlags part new = ⊥
IsCutOff UnknownExport part new = ⊥
IsCutOff TooManyOptions part new = ⊥
IsCutOff OutOfMemory part new = ⊥
IsCutOff Stopped part new = ⊥

-- What was read after the requests of a batch: nothing, or one more request, whole or in part, or bytes that are none.
abbrev pub IsBehind : List ℕ → Type 0
IsBehind part = (part ≡ []) ⊎ (((a : WholeRequest) × IsWholeRequest a × (part ≡ request_text a.request ++ a.payload)) ⊎ (IsUnfinished part ⊎ IsNoRequest part))

-- These requests were read and their replies written. Then `part` was read, and `more` was written.
pub record HasExchanged (answered : List AnsweredRequest) (part more : List ℕ) (before after : Streams) : Type 0 where
  pub read : Consumes before.unread after.unread (requests_text answered ++ part)
  pub wrote : Appends before.written after.written (replies_text answered ++ more)

-- For a device of this kind and of `size` bytes, which goes from one state to another beside a world.
module _ {D W E : Type 0} (kind : DeviceKind D W E) (size : ℕ) where
  -- What is kept of a batch, by what is known of the device before it and after it. What its requests did is kept. Or all of
  -- them are refused: the device wasn't called, or a reply says that it has failed, that memory ran out, or that the requests were given up. Then the next
  -- process would hold what it would have held before, or what some beginning of these requests leaves.
  abbrev pub SavesBatch : D → List AnsweredRequest → D → Arrays (List ℕ) → Arrays (List ℕ) → Type 0
  SavesBatch old batch new before later =
      ((later.held ≡ array_after_requests (map whole_request_of batch) before.held) × SavesAll (RequestsTouchSomeByte size (map whole_request_of batch)) before later)
      ⊎ (All (λ a. IsRefusal a.reply) batch
      × (((new ≡ old) × (later ≡ before)) ⊎ (SaysFault batch × SavesPart (AreRequestsBegun (map whole_request_of batch)) before later)))

  -- A batch of requests was served. From each array that was held, they lead to one that is held. If the world doesn't lie,
  -- no reply says that the device failed. Which blocks the device was asked for, call by call, follows from where the ranges of
  -- the requests lie; or all of them are refused. The requests that aren't refused for their own sake were all carried out, or
  -- all of them were refused with one error. Want of memory is no excuse for a device that had failed: it says that it has.
  pub record ServesBatch (old : D) (batch : List AnsweredRequest) (new : D) : Type 0 where
    pub leads : GoesOn kind.had kind.hears (HasArrays kind.holds kind.kept) old
        (λ may_lie before later. IsService before.held batch later.held × (may_lie ≡ false → NeverFails batch) × SavesBatch old batch new before later) new
    pub asks : AsksFor kind.asked old (request_calls (kind.block_len old) size (map (λ a. a.request) (map whole_request_of batch))) new ⊎ All (λ a. IsRefusal a.reply) batch
    pub tells : All (TellsFailure size (kind.failed old) (kind.failed new)) batch
    pub alike : (why : Option NbdError) × All (EndsWith size why) batch

  -- These requests were served, in batches, one after the other.
  pub record HasServedRequests (old new : D) (answered : List AnsweredRequest) : Type 0 where
    pub fits : All (λ a. IsReplied size a) answered
    pub refused : FailsForGood (kind.failed old) answered
    pub batches : List (List AnsweredRequest)
    pub all : flat_map (λ batch. batch) batches ≡ answered
    pub served : FoldsTo {P = D} {A = List AnsweredRequest} ServesBatch old batches new

  -- These requests were served. Then the device stopped while it carried out a batch, in which at least one request isn't
  -- refused. It was in the state `mid` before that batch, and hadn't failed. Some beginning of the batch is done, and the next process would hold
  -- what it would have held before, or what some beginning of the batch leaves.
  pub record HasStopped (old new : D) (answered : List AnsweredRequest) (arrived : List WholeRequest) : Type 0 where
    pub mid : D
    pub served : HasServedRequests old mid answered
    pub whole : All IsWholeRequest arrived
    pub accepted : (before after : List WholeRequest) × (a : WholeRequest) × (arrived ≡ before ++ a ∷ after) × (refusal_of size a.request ≡ None)
    pub alive : kind.failed mid → ⊥
    pub begun : GoesOn kind.had kind.hears (HasArrays kind.holds kind.kept) mid
        (λ may_lie before later. AreRequestsBegun arrived before.held later.held × SavesPart (AreRequestsBegun arrived) before later) new

-- All requests that are served over a connection, together. In each world that goes through the events of their calls, they
-- lead, one after the other, from the array that was held at first to the one that is held at last, and each reply is that of
-- the array at its request, or an error. If the world doesn't lie, no reply says that the device failed.
abbrev pub ConnectionsServeArrays : {D W E : Type 0} → DeviceKind D W E → Type 0
ConnectionsServeArrays {D} kind = (size : ℕ) (old new : D) (answered : List AnsweredRequest) → HasServedRequests kind size old new answered
    → GoesOn kind.had kind.hears (HasArrays kind.holds kind.kept) old
    (λ may_lie before later. IsService before.held answered later.held × (may_lie ≡ false → NeverFails answered)) new

-- For a device of this kind, which goes from one state to another beside a world.
module _ {D W E : Type 0} (kind : DeviceKind D W E) (old new : D) where
  -- `count` requests were answered, and then the requests ended
  pub record HasTransmitted (count : ℕ) (before after : Streams) : Type 0 where
    pub answered : List AnsweredRequest
    pub last : List ℕ
    pub all : length answered ≡ count
    pub served : HasServedRequests kind (kind.size old) old new answered
    pub exchanged : HasExchanged answered last [] before after
    pub ended : IsLast after.unread last

  -- What is known at a fault. After a failed write, the requests of the last batch were served too, and a beginning of their
  -- replies was written. If the device stopped, the requests of the last batch have no replies. What was read after that batch
  -- wasn't served.
  abbrev pub StopsServing : NbdFault → Streams → Streams → Type 0
  StopsServing Write before after =
      (answered batch : List AnsweredRequest) × (part : List ℕ) × (count : ℕ) × HasServedRequests kind (kind.size old) old new (answered ++ batch) × IsBehind part
      × HasExchanged answered (requests_text batch ++ part) (take count (replies_text batch)) before after
  StopsServing Stopped before after =
      (answered : List AnsweredRequest) × (arrived : List WholeRequest) × (part : List ℕ) × HasStopped kind (kind.size old) old new answered arrived × IsBehind part
      × HasExchanged answered (whole_requests_text arrived ++ part) [] before after
  StopsServing fault before after =
      (answered : List AnsweredRequest) × (part : List ℕ) × HasServedRequests kind (kind.size old) old new answered × HasExchanged answered part [] before after
      × IsCutOff fault part after.unread
