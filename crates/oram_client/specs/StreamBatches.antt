-- A connection over a reader and a writer that carries several messages at once.
use Rattle.std.specs.Prelude.{◌≡◌, ◌⊎◌, ℕ, ◌+◌, ◌<◌, ◌≤◌, Bool, false, ◌||◌, ⊤, List, [], ◌∷◌, ◌++◌, length, take, Option, Ok, Err, is_err, MatchBool}
use Rattle.std.specs.Io.KnownBytes.{Appends, Consumes, Keeps}
use Rattle.std.specs.List.{All, flat_map}
use Rattle.oram_wire.specs.FrameStream.{IsBody, frame}
use Rattle.oram_wire.specs.FrameIo.{GivesCutFrame, GivesEnd, GivesFrame, GivesHead, GivesLongHead, GivesPart}
use Rattle.oram_wire.specs.declared.TheConstants.{LONGEST_BODY}
use Rattle.oram_session.specs.Outcome.{Outcome}
use Rattle.oram_session.specs.declared.link.LinkFault.{LinkFault}
use Rattle.oram_session.specs.declared.link.LinkFault.TheVariants.{Io, Closed, TooLong, TooLarge, OutOfMemory}
use Rattle.oram_link_laws.specs.Repair.{IsAmong}
use Rattle.oram_link_laws.specs.Runs.{Exchange}
use Rattle.oram_client.specs.AnswerLengths.{DiskSizes, longest_answer}
use Rattle.oram_rounds.specs.Batches.{BatchOutcome, answered}

-- what is still to come of a batch whose answers are taken one by one
pub record Due : Type 0 where
  pub unsent : List ℕ  -- the bytes that weren't written yet
  pub left : ℕ  -- how many answers are still to be read

-- the connection
pub record Connection (R W : Type 0) : Type 0 where
  pub reader : R
  pub writer : W
  pub disk : DiskSizes  -- the disk of the host, which says how long an answer may be
  pub closed : Bool  -- whether it takes no batch: a fault has closed it, or answers are to come one by one
  pub due : Due

-- a new connection
abbrev pub connection : {R W : Type 0} → R → W → DiskSizes → Connection R W
connection reader writer disk = record { reader = reader; writer = writer; disk = disk; closed = false; due = record { unsent = []; left = 0 } }

-- The bytes read when an answer is due that has at most `longest` bytes, and the outcome that they give. Of a longer one only the length
-- is read.
abbrev pub ReceivesWithin : ℕ → Option (List ℕ) → Option (List ℕ) → Outcome → Type 0
ReceivesWithin longest old new (Ok bytes) = GivesFrame old new bytes × (length bytes ≤ longest)
ReceivesWithin longest old new (Err Io) = GivesPart old new
ReceivesWithin longest old new (Err Closed) = GivesEnd old new ⊎ GivesCutFrame old new
ReceivesWithin longest old new (Err TooLong) = GivesLongHead longest old new
ReceivesWithin longest old new (Err TooLarge) = ⊥
ReceivesWithin longest old new (Err OutOfMemory) = GivesHead old new

-- none of the answers to these messages is longer than its message allows
abbrev pub AreWithin : (List ℕ → ℕ) → List (List ℕ) → List (List ℕ) → Type 0
AreWithin longest bodies [] = ⊤
AreWithin longest [] (answer ∷ answers) = ⊥
AreWithin longest (body ∷ bodies) (answer ∷ answers) = (length answer ≤ longest body) × AreWithin longest bodies answers

-- the reader gave the frames of these bodies
abbrev pub GivesFrames : Option (List ℕ) → Option (List ℕ) → List (List ℕ) → Type 0
GivesFrames old new bodies = All IsBody bodies × Consumes old new (flat_map frame bodies)

-- one of the bodies is too long for a frame
abbrev pub HasLongBody : List (List ℕ) → Type 0
HasLongBody bodies = (body : List ℕ) × IsAmong body bodies × (LONGEST_BODY < length body)

-- why there are no frames of these bodies: memory ran out, or one of them is too long
abbrev pub AreUnframed : List (List ℕ) → LinkFault → Type 0
AreUnframed bodies fault = (fault ≡ OutOfMemory) ⊎ ((fault ≡ TooLong) × HasLongBody bodies)

-- The bytes written if the bodies can't be sent: none if one of them is too long or there is no memory for their frames;
-- if the writer failed, a beginning of the frames or all of them.
abbrev pub FailsToSendAll : {W : Type 0} → (W → Option (List ℕ)) → W → List (List ℕ) → LinkFault → W → Type 0
FailsToSendAll contents old bodies Io new = (count : ℕ) × Appends (contents old) (contents new) (take count (flat_map frame bodies))
FailsToSendAll contents old bodies Closed new = ⊥
FailsToSendAll contents old bodies TooLong new = HasLongBody bodies × (new ≡ old)
FailsToSendAll contents old bodies TooLarge new = ⊥
FailsToSendAll contents old bodies OutOfMemory new = new ≡ old

-- the exchanges of a batch that a fault cut short: the first messages have these answers, and the others have none
abbrev pub cut_short : List (List ℕ) → List (List ℕ) → LinkFault → List Exchange
cut_short [] answers fault = []
cut_short (body ∷ bodies) [] fault = (body, Err fault) ∷ cut_short bodies [] fault
cut_short (body ∷ bodies) (answer ∷ answers) fault = (body, Ok answer) ∷ cut_short bodies answers fault

-- An answer to each of the messages was read.
pub record AreReceived (longest : List ℕ → ℕ) (old new : Option (List ℕ)) (bodies answers : List (List ℕ)) : Type 0 where
  pub count : length answers ≡ length bodies
  pub read : GivesFrames old new answers
  pub within : AreWithin longest bodies answers

-- These answers were added to a list of answers.
pub record AreAdded (longest : List ℕ → ℕ) (old new : Option (List ℕ)) (bodies before after : List (List ℕ)) : Type 0 where
  pub answers : List (List ℕ)
  pub received : AreReceived longest old new bodies answers
  pub added : after ≡ before ++ answers

-- Only the first messages have answers. Of the next one, no answer came that it allows, or there was no memory to keep the answer.
pub record StopsAfter (longest : List ℕ → ℕ) (old new : Option (List ℕ)) (bodies answers : List (List ℕ)) (fault : LinkFault) : Type 0 where
  pub first : List (List ℕ)
  pub next : List ℕ
  pub others : List (List ℕ)
  pub all : bodies ≡ first ++ next ∷ others
  pub mid : Option (List ℕ)
  pub received : AreReceived longest old mid first answers
  pub stop : ReceivesWithin (longest next) mid new (Err fault) ⊎ ((fault ≡ OutOfMemory) × (answer : List ℕ) × ReceivesWithin (longest next) mid new (Ok answer))

-- The bodies were sent as frames.
pub record AreSent {W : Type 0} (contents : W → Option (List ℕ)) (writer : W) (bodies : List (List ℕ)) (writer' : W) : Type 0 where
  pub fit : All IsBody bodies
  pub wrote : Appends (contents writer) (contents writer') (flat_map frame bodies)

-- A beginning of these bytes was written, and this is the rest of them.
abbrev pub WritesOn : Option (List ℕ) → Option (List ℕ) → List ℕ → List ℕ → Type 0
WritesOn old new bytes rest = (written : List ℕ) × Appends old new written × (written ++ rest ≡ bytes)

-- Of the frames of the bodies, all were written but these last bytes.
pub record SendsUntil {W : Type 0} (contents : W → Option (List ℕ)) (writer : W) (bodies : List (List ℕ)) (writer' : W) (unsent : List ℕ) : Type 0 where
  pub fit : All IsBody bodies
  pub wrote : WritesOn (contents writer) (contents writer') (flat_map frame bodies) unsent

-- The messages of a batch were sent over an open connection, and nothing was read.
pub record StreamAsk {R W : Type 0} (contents : W → Option (List ℕ)) (l : Connection R W) (bodies : List (List ℕ)) (m : Connection R W) : Type 0 where
  pub was_open : l.closed ≡ false
  pub is_open : m.closed ≡ false
  pub sent : AreSent contents l.writer bodies m.writer
  pub unread : m.reader ≡ l.reader
  pub disk : m.disk ≡ l.disk

-- Nothing goes over a closed connection.
pub record IsClosed {R W : Type 0} (l : Connection R W) (o : BatchOutcome) (exchanges : List Exchange) (m : Connection R W) : Type 0 where
  pub says : o ≡ Err Closed
  pub none : exchanges ≡ []
  pub same : m ≡ l

-- over a reader and a writer; these functions give the bytes still to be read and those written, if they are known
module _ {R W : Type 0} (remaining : R → Option (List ℕ)) (contents : W → Option (List ℕ)) where
  -- The bodies were sent, and as many answers were read.
  pub record AreAnswered (longest : List ℕ → ℕ) (reader : R) (writer : W) (bodies answers : List (List ℕ)) (reader' : R) (writer' : W) : Type 0 where
    pub sent : AreSent contents writer bodies writer'
    pub received : AreReceived longest (remaining reader) (remaining reader') bodies answers

  -- The bodies couldn't be sent, and nothing was read.
  pub record AreUnsent (reader : R) (writer : W) (bodies answers : List (List ℕ)) (fault : LinkFault) (reader' : R) (writer' : W) : Type 0 where
    pub none : answers ≡ []
    pub wrote : FailsToSendAll contents writer bodies fault writer'
    pub unread : Keeps (remaining reader) (remaining reader')

  -- The bodies were sent, or the frames of them but some last bytes, and not all answers were read.
  pub record AreCutShort (longest : List ℕ → ℕ) (reader : R) (writer : W) (bodies answers : List (List ℕ)) (fault : LinkFault) (reader' : R) (writer' : W) : Type 0 where
    pub unsent : List ℕ
    pub sends : SendsUntil contents writer bodies writer' unsent
    pub stops : StopsAfter longest (remaining reader) (remaining reader') bodies answers fault

  -- the messages, the outcome and the exchanges of a batch over an open connection
  abbrev pub Carries : (List ℕ → ℕ) → R → W → List (List ℕ) → BatchOutcome → List Exchange → R → W → Type 0
  Carries longest reader writer bodies (Ok answers) exchanges reader' writer' =
      AreAnswered longest reader writer bodies answers reader' writer' × (exchanges ≡ answered bodies answers)
  Carries longest reader writer bodies (Err fault) exchanges reader' writer' = (answers : List (List ℕ)) × (exchanges ≡ cut_short bodies answers fault)
      × (AreUnsent reader writer bodies answers fault reader' writer' ⊎ AreCutShort longest reader writer bodies answers fault reader' writer')

  -- a batch
  pub record StreamBatch (l : Connection R W) (bodies : List (List ℕ)) (o : BatchOutcome) (exchanges : List Exchange) (m : Connection R W) : Type 0 where
    pub closed : m.closed ≡ (l.closed || is_err o)
    pub disk : m.disk ≡ l.disk
    pub carried : MatchBool l.closed (IsClosed l o exchanges m) (Carries (longest_answer l.disk) l.reader l.writer bodies o exchanges m.reader m.writer)

  -- A batch was begun over an open connection, and these answers to the first of its messages were read. While others are to come, the
  -- connection takes no other batch. Once all are read, all is written.
  pub record Streams (l : Connection R W) (bodies answers : List (List ℕ)) (m : Connection R W) : Type 0 where
    pub was_open : l.closed ≡ false
    pub disk : m.disk ≡ l.disk
    pub sends : SendsUntil contents l.writer bodies m.writer m.due.unsent
    pub count : m.due.left + length answers ≡ length bodies
    pub awaits : MatchBool m.closed (0 < m.due.left) ((m.due.left ≡ 0) × (m.due.unsent ≡ []))
    pub received : AreReceived (longest_answer l.disk) (remaining l.reader) (remaining m.reader) (take (length answers) bodies) answers
