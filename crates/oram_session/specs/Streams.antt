-- What a link over a reader and a writer sends and receives.
use Rattle.std.specs.Prelude.{◌≡◌, ℕ, ◌<◌, nat_lt, Bool, List, length, take, Option, Ok, Err, MatchBool, ◌⊎◌}
use Rattle.std.specs.Io.KnownBytes.{Appends}
use Rattle.oram_wire.specs.FrameStream.{IsBody, frame}
use Rattle.oram_wire.specs.FrameIo.{GivesFrame, GivesEnd, GivesPart, GivesCutFrame, GivesBrokenHead, GivesHead}
use Rattle.oram_wire.specs.declared.TheConstants.{LONGEST_BODY}
use Rattle.oram_session.specs.Outcome.{Outcome, faults_after}
use Rattle.oram_session.specs.declared.link.LinkFault.{LinkFault}
use Rattle.oram_session.specs.declared.link.LinkFault.TheVariants.{Io, Closed, TooLong, TooLarge, OutOfMemory}

-- a link to a host at the other end of a reader and a writer
pub record ToStreams (R W : Type 0) : Type 0 where
  pub reader : R
  pub writer : W
  pub faults : ℕ  -- how many calls had a fault

-- one fault closes the link
abbrev pub is_closed : {R W : Type 0} → ToStreams R W → Bool
is_closed l = nat_lt 0 l.faults

-- the bytes read when a frame is due, and the outcome that they give
abbrev pub Receives : Option (List ℕ) → Option (List ℕ) → Outcome → Type 0
Receives old new (Ok bytes) = GivesFrame old new bytes
Receives old new (Err Io) = GivesPart old new
Receives old new (Err Closed) = GivesEnd old new ⊎ GivesCutFrame old new
Receives old new (Err TooLong) = GivesBrokenHead old new
Receives old new (Err TooLarge) = ⊥
Receives old new (Err OutOfMemory) = GivesHead old new

-- The bytes written if a body can't be sent: none if the body is too long or there is no memory for its frame; if the
-- writer failed, a beginning of the frame or all of it.
abbrev pub FailsToSend : {W : Type 0} → (W → Option (List ℕ)) → W → List ℕ → LinkFault → W → Type 0
FailsToSend contents old body Io new = (count : ℕ) × Appends (contents old) (contents new) (take count (frame body))
FailsToSend contents old body Closed new = ⊥
FailsToSend contents old body TooLong new = (LONGEST_BODY < length body) × (new ≡ old)
FailsToSend contents old body TooLarge new = ⊥
FailsToSend contents old body OutOfMemory new = new ≡ old

-- over a reader and a writer; these functions give the bytes still to be read and those written, if they are known
module _ {R W : Type 0} (remaining : R → Option (List ℕ)) (contents : W → Option (List ℕ)) where
  -- The body couldn't be sent, and nothing was read.
  pub record IsUnsent (reader : R) (writer : W) (body : List ℕ) (outcome : Outcome) (reader' : R) (writer' : W) : Type 0 where
    pub fault : LinkFault
    pub outcome_is : outcome ≡ Err fault
    pub wrote : FailsToSend contents writer body fault writer'
    pub unread : reader' ≡ reader

  -- The body was sent as a frame, and then the answer's frame was due.
  pub record IsDelivered (reader : R) (writer : W) (body : List ℕ) (outcome : Outcome) (reader' : R) (writer' : W) : Type 0 where
    pub fits : IsBody body
    pub wrote : Appends (contents writer) (contents writer') (frame body)
    pub read : Receives (remaining reader) (remaining reader') outcome

  abbrev pub Asks : R → W → List ℕ → Outcome → R → W → Type 0
  Asks reader writer body outcome reader' writer' =
      IsUnsent reader writer body outcome reader' writer' ⊎ IsDelivered reader writer body outcome reader' writer'

  -- a call: a closed link neither reads nor writes
  pub record StreamCall (l : ToStreams R W) (body : List ℕ) (outcome : Outcome) (m : ToStreams R W) : Type 0 where
    pub faults : m.faults ≡ faults_after l.faults outcome
    pub answer : MatchBool (is_closed l)
        ((outcome ≡ Err Closed) × (m.reader ≡ l.reader) × (m.writer ≡ l.writer))
        (Asks l.reader l.writer body outcome m.reader m.writer)
