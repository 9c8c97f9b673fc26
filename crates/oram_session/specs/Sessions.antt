-- A whole session: the bytes read and written, and the events of the core and the calls of the link in between.
use Rattle.std.specs.Prelude.{◌≡◌, ℕ, ◌<◌, ◌≤◌, List, [], length, take, ◌⊎◌, ⊤, Result, Ok, Err}
use Rattle.std.specs.Io.KnownBytes.{IsAtEnd}
use Rattle.oram_wire.specs.FrameStream.{IsBody, IsBroken, IsUnfinished, frame, length_at}
use Rattle.oram_wire.specs.SessionMessages.{session_reply_body}
use Rattle.oram_wire.specs.declared.TheConstants.{LONGEST_BODY}
use Rattle.oram_semantics.specs.Scheme.{Scheme}
use Rattle.oram_semantics.specs.State.{State}
use Rattle.oram_host.specs.Answered.{AnsweredRun, Answering, HasAnswered}
use Rattle.oram_session.specs.Outcome.{Outcome}
use Rattle.oram_session.specs.CoreWork.{HasNoWork}
use Rattle.oram_session.specs.Turns.{Turn, IsTurn, IsStuck, IsCutTurn}
use Rattle.oram_host.specs.declared.serve_fault.ServeFault.{ServeFault}
use Rattle.oram_host.specs.declared.serve_fault.ServeFault.TheVariants.{Read, Write, Frame, Truncated, Stalled, OutOfMemory}

-- a turn's reply as bytes, and as a frame
abbrev pub reply_body : Turn → List ℕ
reply_body turn = session_reply_body turn.reply

abbrev pub reply_frame : Turn → List ℕ
reply_frame turn = frame (reply_body turn)

-- the core is idle or has failed, unless a message stalled or memory ran out
abbrev pub LeavesCore : Result ℕ ServeFault → State → Type 0
LeavesCore (Ok count) s = HasNoWork s
LeavesCore (Err Read) s = HasNoWork s
LeavesCore (Err Write) s = HasNoWork s
LeavesCore (Err Frame) s = HasNoWork s
LeavesCore (Err Truncated) s = HasNoWork s
LeavesCore (Err Stalled) s = ⊤
LeavesCore (Err OutOfMemory) s = ⊤

module _ (v : Scheme) {L : Type 0} (calls : L → List ℕ → Outcome → L → Type 0) (words : ℕ → ℕ → List ℕ) (session : ℕ) where
  -- The turns lead core and link from the one state to the other. The frames of their bodies and of their replies were read
  -- and written, and then the given bytes.
  abbrev pub HasServedSession : AnsweredRun (State × L) Turn → Type 0
  HasServedSession = HasAnswered {P = State × L} (IsTurn v calls words session) (λ x. x.body) reply_body

  -- What is left of a turn at which memory ran out. Only the length of the frame was read; or the frame was read, and
  -- nothing happened, or the request was cut off, or everything was done except the reply.
  abbrev pub IsLeft : State × L → List ℕ → State × L → Type 0
  IsLeft p part q =
      ((p ≡ q) × (length part ≡ 4) × (length_at part ≤ LONGEST_BODY))
      ⊎ ((body : List ℕ) × IsBody body × (part ≡ frame body)
      × ((p ≡ q) ⊎ (IsCutTurn v calls words session p body q ⊎ ((turn : Turn) × (turn.body ≡ body) × IsTurn v calls words session p turn q))))

  -- How a session that began at `p` ends at `q`: it has served some turns.
  abbrev pub EndsSession : Answering (State × L) → Answering (State × L) → Result ℕ ServeFault → Type 0
  -- The input ended after their frames.
  EndsSession p q (Ok count) = (turns : List Turn) × (length turns ≡ count)
      × HasServedSession (record { before = p; things = turns; part = []; more = []; after = q }) × IsAtEnd q.unread
  -- A frame's length is too great, the input ends inside a frame, or the reader fails before a frame is whole.
  EndsSession p q (Err Frame) = (turns : List Turn) × (head : List ℕ) × (length head ≡ 4) × IsBroken head
      × HasServedSession (record { before = p; things = turns; part = head; more = []; after = q })
  EndsSession p q (Err Truncated) = (turns : List Turn) × (part : List ℕ) × (0 < length part) × IsUnfinished part
      × HasServedSession (record { before = p; things = turns; part = part; more = []; after = q }) × IsAtEnd q.unread
  EndsSession p q (Err Read) = (turns : List Turn) × (part : List ℕ) × IsUnfinished part
      × HasServedSession (record { before = p; things = turns; part = part; more = []; after = q })
  -- Only a beginning of the last reply was written, or all of it but not flushed.
  EndsSession p q (Err Write) = (turns : List Turn) × (mid : State × L) × (last : Turn) × (count : ℕ) × IsBody last.body
      × IsTurn v calls words session mid last q.state
      × HasServedSession (record { before = p; things = turns; part = frame last.body; more = take count (reply_frame last); after = record q { state = mid } })
  -- One message of the last request stalled four times.
  EndsSession p q (Err Stalled) = (turns : List Turn) × (mid : State × L) × (body : List ℕ) × IsBody body
      × IsStuck v calls words session mid body q.state
      × HasServedSession (record { before = p; things = turns; part = frame body; more = []; after = record q { state = mid } })
  -- If memory runs out, everything done before stays done: these turns, and a last one as far as it came.
  EndsSession p q (Err OutOfMemory) = (turns : List Turn) × (mid : State × L) × (part : List ℕ) × IsLeft mid part q.state
      × HasServedSession (record { before = p; things = turns; part = part; more = []; after = record q { state = mid } })
