-- What a bucket server is asked over a stream, and what it answers.
use Rattle.std.specs.Prelude.{◌≡◌, ℕ, ◌<◌, ◌≤◌, List, [], length, take, Result, Ok, Err, ◌⊎◌}
use Rattle.std.specs.Io.KnownBytes.{IsAtEnd}
use Rattle.oram_wire.specs.FrameStream.{IsBody, IsBroken, IsUnfinished, frame, length_at}
use Rattle.oram_wire.specs.HostMessages.{answer_body}
use Rattle.oram_wire.specs.HostBodies.{IsAnswer}
use Rattle.oram_wire.specs.declared.TheConstants.{LONGEST_BODY}
use Rattle.oram_wire.specs.declared.host_messages.HostAnswer.{HostAnswer}
use Rattle.oram_host.specs.Answered.{AnsweredRun, Answering, HasAnswered}
use Rattle.oram_host.specs.declared.serve_fault.ServeFault.{ServeFault}
use Rattle.oram_host.specs.declared.serve_fault.ServeFault.TheVariants.{Read, Write, Frame, Truncated, Stalled, OutOfMemory}

-- the body of a request, and the answer to it
pub record Exchange : Type 0 where
  pub body : List ℕ
  pub answer : HostAnswer

abbrev pub answer_frame : Exchange → List ℕ
answer_frame x = frame (answer_body x.answer)

-- What was read of a request for which memory ran out: its length, or all of it.
abbrev pub IsUnanswered : List ℕ → Type 0
IsUnanswered part = ((length part ≡ 4) × (length_at part ≤ LONGEST_BODY)) ⊎ ((body : List ℕ) × IsBody body × (part ≡ frame body))

-- for a server whose answers `serves` describes
module _ {H : Type 0} (serves : H → List ℕ → HostAnswer → H → Type 0) where
  -- the server carries out the request, and is in the state `after` then
  abbrev pub IsExchange : H → Exchange → H → Type 0
  IsExchange server x after = serves server x.body x.answer after × IsAnswer x.answer

  -- The exchanges lead the server from one state to another. Their frames were read and written, and then the given
  -- bytes.
  abbrev pub HasHosted : AnsweredRun H Exchange → Type 0
  HasHosted = HasAnswered IsExchange (λ x. x.body) (λ x. answer_body x.answer)

  -- How a connection that began at `p` ends at `q`: the server has answered some requests.
  abbrev pub EndsConnection : Answering H → Answering H → Result ℕ ServeFault → Type 0
  -- The input ended after their frames.
  EndsConnection p q (Ok count) = (xs : List Exchange) × (length xs ≡ count)
      × HasHosted (record { before = p; things = xs; part = []; more = []; after = q }) × IsAtEnd q.unread
  -- A frame began with a length that no frame has, or the input ended inside a frame, or the reader failed.
  EndsConnection p q (Err Frame) = (xs : List Exchange) × (head : List ℕ) × (length head ≡ 4) × IsBroken head
      × HasHosted (record { before = p; things = xs; part = head; more = []; after = q })
  EndsConnection p q (Err Truncated) = (xs : List Exchange) × (part : List ℕ) × (0 < length part) × IsUnfinished part
      × HasHosted (record { before = p; things = xs; part = part; more = []; after = q }) × IsAtEnd q.unread
  EndsConnection p q (Err Read) = (xs : List Exchange) × (part : List ℕ) × IsUnfinished part
      × HasHosted (record { before = p; things = xs; part = part; more = []; after = q })
  -- A beginning of the last answer was written, or all of it.
  EndsConnection p q (Err Write) = (xs : List Exchange) × (mid : H) × (last : Exchange) × (count : ℕ) × IsBody last.body
      × IsExchange mid last q.state
      × HasHosted (record { before = p; things = xs; part = frame last.body; more = take count (answer_frame last); after = record q { state = mid } })
  -- When memory ran out, the last request was not carried out.
  EndsConnection p q (Err OutOfMemory) = (xs : List Exchange) × (part : List ℕ) × IsUnanswered part
      × HasHosted (record { before = p; things = xs; part = part; more = []; after = q })
  -- Nothing stalls here.
  EndsConnection p q (Err Stalled) = ⊥
