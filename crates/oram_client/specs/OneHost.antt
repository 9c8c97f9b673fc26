-- What a batch over a link that tries again means for the host, if all connections of the link lead to one host.
use Rattle.std.specs.Prelude.{◌≡◌, ◌⊎◌, ◌↔◌, ℕ, zero, suc, Bool, true, false, List, [], ◌∷◌, ◌++◌, Option, None, Some, Ok, Err, is_ok, if◌then◌else◌, bytes_eq, replicate}
use Rattle.std.specs.List.{AllByRecursion, FoldsTo}
use Rattle.oram_wire.specs.FrameStream.{IsBody, frame}
use Rattle.oram_wire.specs.HostBodies.{IsAnswer}
use Rattle.oram_wire.specs.HostMessages.{answer_body, done_answer, fetch_body, no_room_answer, payload_answer, store_body}
use Rattle.oram_wire.specs.declared.host_messages.HostAnswer.{HostAnswer}
use Rattle.oram_host.specs.Host.{Host}
use Rattle.oram_host.specs.Service.{Serves}
use Rattle.oram_semantics.specs.Scheme.{Scheme}
use Rattle.oram_session.specs.declared.link.LinkFault.{LinkFault}
use Rattle.oram_session.specs.declared.link.LinkFault.TheVariants.{Closed, OutOfMemory}
use Rattle.oram_link_laws.specs.Examples.{known, new_host, one_block}
use Rattle.oram_link_laws.specs.Repair.{AreAmong, IsAmong}
use Rattle.oram_link_laws.specs.Runs.{Exchange, HostRun, bodies_of}
use Rattle.oram_link_laws.specs.Streamed.{Supplies}
use Rattle.oram_rounds.specs.Batches.{BatchOutcome, answered}
use Rattle.oram_rounds.specs.CatchUp.{PlainRun}
use Rattle.oram_client.specs.AnswerLengths.{DiskSizes}
use Rattle.oram_client.specs.Attempts.{Attempt, DialersAreBatches, Plainly}
use Rattle.oram_client.specs.Reconnect.{DialerKind, GoesOnce, ReconnectBatch, ReconnectState, SentBatch, dialer_kind}
use Rattle.oram_client.specs.StreamBatches.{Connection, StreamBatch, connection}
use Rattle.oram_client.specs.declared.dialer.Limits.{Limits}
use Rattle.oram_client.specs.declared.dialer.Trouble.{Trouble}

-- a host goes through the exchanges of these tries, one after the other, and is honest in each or may lie
abbrev pub TriesRun : Bool → Scheme → Host → List (List Exchange) → Host → Type 0
TriesRun may_lie v host tries after = FoldsTo {P = Host} {A = List Exchange} (PlainRun may_lie v) host tries after

-- each try has the exchanges of a batch of these messages over a connection, or no exchanges if no connection was open
abbrev pub AreTries : {D L : Type 0} → (D → L → List (List ℕ) → Attempt → List Exchange → D → L → Type 0) → List (List ℕ) → List (List Exchange) → Type 0
AreTries {D} {L} carries bodies tries =
    AllByRecursion (λ exchanges. (exchanges ≡ []) ⊎ ((d e : D) × (from to : L) × (came : Attempt) × carries d from bodies came exchanges e to)) tries

-- for dialers and connections with these relations
module _ {D L : Type 0} (kind : DialerKind D L) where
  -- The exchanges of a batch are those of its tries, and no others: a host goes through the one exactly if it goes through the
  -- other.
  abbrev pub ExchangesAreOfTheTries : Type 0
  ExchangesAreOfTheTries = (l m : ReconnectState D L) (bodies : List (List ℕ)) (o : BatchOutcome) (exchanges : List Exchange)
      → SentBatch kind l bodies o exchanges m
      → (tries : List (List Exchange)) × AreTries kind.carries bodies tries
      × ((may_lie : Bool) (v : Scheme) (host after : Host) → TriesRun may_lie v host tries after ↔ PlainRun may_lie v host exchanges after)

  -- The answers that the caller receives are the host's, to all messages in their order, after the host received any of the
  -- messages in tries that failed. If the link sends a batch again while it may, none of them says that the host has no room, unless the link
  -- has given up.
  abbrev pub AnswersAreTheHosts : Type 0
  AnswersAreTheHosts = DialersAreBatches kind.carries
      → (may_lie : Bool) (v : Scheme) (l m : ReconnectState D L) (bodies answers : List (List ℕ)) (exchanges : List Exchange) (host after : Host)
      → SentBatch kind l bodies (Ok answers) exchanges m → PlainRun may_lie v host exchanges after
      → (vain : List Exchange) × AreAmong (bodies_of vain) bodies
      × ((mid : Host) × PlainRun may_lie v host vain mid × PlainRun may_lie v mid (answered bodies answers) after)
      × (ReconnectBatch kind l bodies (Ok answers) exchanges m → m.trouble ≡ None → ¬ IsAmong no_room_answer answers)

  -- If a link that sends its batches again while it may returns a fault and hasn't given up, memory ran out.
  abbrev pub FaultsAreOfMemory : Type 0
  FaultsAreOfMemory = (l m : ReconnectState D L) (bodies : List (List ℕ)) (fault : LinkFault) (exchanges : List Exchange)
      → ReconnectBatch kind l bodies (Err fault) exchanges m → l.trouble ≡ None → m.trouble ≡ None → fault ≡ OutOfMemory

  -- All connections lead to one host. `host_of` gives that host as it is now, for a dialer and the open connection if there is
  -- one; it gives `None` for a dialer and a connection that don't lead to it. Whatever happens to the link while it carries
  -- these messages, its dialer and its connection lead to the host afterwards too, as the host is then.
  pub record LeadToOneHost (may_lie : Bool) (v : Scheme) (bodies : List (List ℕ)) (host_of : D → Option L → Option Host) : Type 0 where
    pub opened : (d e : D) (limits : Limits) (line : L) (host : Host) → host_of d None ≡ Some host → kind.opens d limits line e → host_of e (Some line) ≡ Some host
    pub unopened : (d e : D) (limits : Limits) (trouble : Trouble) (host : Host) → host_of d None ≡ Some host → kind.fails d limits trouble e → host_of e None ≡ Some host
    pub answered_over : (d e : D) (line way : L) (answers : List (List ℕ)) (exchanges : List Exchange) (host : Host) → host_of d (Some line) ≡ Some host
        → kind.carries d line bodies (Ok answers) exchanges e way → (after : Host) × PlainRun may_lie v host exchanges after × (host_of e (Some way) ≡ Some after)
    pub broken_off : (d e : D) (line way : L) (trouble : Trouble) (exchanges : List Exchange) (host : Host) → host_of d (Some line) ≡ Some host
        → kind.carries d line bodies (Err trouble) exchanges e way → (after : Host) × PlainRun may_lie v host exchanges after × (host_of e None ≡ Some after)
    pub paused : (d e : D) (line : Option L) (milliseconds : ℕ) (host : Host) → host_of d line ≡ Some host → kind.pauses d milliseconds e → host_of e line ≡ Some host
    pub clock_read : (d e : D) (line : Option L) (now : Option ℕ) (host : Host) → host_of d line ≡ Some host → kind.reads d now e → host_of e line ≡ Some host

  -- Then the exchanges of a batch over the link are those of the host, from connection to connection, and afterwards all
  -- connections lead to it again.
  abbrev pub ExchangesAreOfOneHost : Type 0
  ExchangesAreOfOneHost = (may_lie : Bool) (v : Scheme) (bodies : List (List ℕ)) (host_of : D → Option L → Option Host) → LeadToOneHost may_lie v bodies host_of
      → (l m : ReconnectState D L) (o : BatchOutcome) (exchanges : List Exchange) (host : Host) → host_of l.dialer l.line ≡ Some host
      → SentBatch kind l bodies o exchanges m
      → (after : Host) × PlainRun may_lie v host exchanges after × (host_of m.dialer m.line ≡ Some after)

-- If the reader's bytes are known to be a server's answers to the messages, then that server is honest in the exchanges of a
-- batch, whatever the outcome of the batch, even a fault.
abbrev pub StreamBatchesAreRun : {R W : Type 0} → (R → Option (List ℕ)) → (W → Option (List ℕ)) → Type 0
StreamBatchesAreRun {R} {W} remaining contents = (l m : Connection R W) (bodies : List (List ℕ)) (o : BatchOutcome) (exchanges : List Exchange) (host : Host) (bytes : List ℕ)
    → remaining l.reader ≡ Some bytes → Supplies host bodies bytes → StreamBatch remaining contents l bodies o exchanges m
    → (left : Host) × HostRun host exchanges left

-- The host receives these messages, or only the first ones of them, and the bytes are the frames of its answers.
abbrev pub AnswersFirst : Host → List (List ℕ) → List ℕ → Host → Type 0
AnswersFirst host [] bytes after = (bytes ≡ []) × (after ≡ host)
AnswersFirst host (body ∷ bodies) bytes after = ((bytes ≡ []) × (after ≡ host))
    ⊎ ((answer : HostAnswer) × (mid : Host) × (rest : List ℕ) × IsAnswer answer × IsBody (answer_body answer) × Serves host body answer mid
    × (bytes ≡ frame (answer_body answer) ++ rest) × AnswersFirst mid bodies rest after)

-- A connection that leads to this host. The connection may break off: then the host receives only some of the messages, and
-- only a beginning of its answers comes back.
pub record LeadsToHost (host : Host) (bodies : List (List ℕ)) (bytes : List ℕ) (after : Host) : Type 0 where
  pub answers : List ℕ
  pub given : AnswersFirst host bodies answers after
  pub lost : List ℕ
  pub come : bytes ++ lost ≡ answers

-- Whatever the outcome of a batch over such a connection, the host is honest in its exchanges. If all messages were answered,
-- no bytes are left to be read.
abbrev pub StreamBatchesReachTheHost : {R W : Type 0} → (R → Option (List ℕ)) → (W → Option (List ℕ)) → Type 0
StreamBatchesReachTheHost {R} {W} remaining contents = (l m : Connection R W) (bodies : List (List ℕ)) (o : BatchOutcome) (exchanges : List Exchange) (host after : Host) (bytes : List ℕ)
    → l.closed ≡ false → remaining l.reader ≡ Some bytes → LeadsToHost host bodies bytes after → StreamBatch remaining contents l bodies o exchanges m
    → HostRun host exchanges after × (is_ok o ≡ true → remaining m.reader ≡ Some [])

-- An example: the host of a device of one block, to which a STORE of ones and a FETCH of its only path are sent. The dialer
-- opens connections in memory, and its value is the number of those that it has opened. Its clock can't be read.
abbrev pub ones : List ℕ
ones = replicate 88 1

abbrev pub messages : List (List ℕ)
messages = store_body 0 0 ones ∷ fetch_body 0 0 ∷ []

-- the host, once it has carried out the STORE
abbrev pub ones_host : Host
ones_host = (0, record { depth = 0; record_len = 88; records = (0, ones) ∷ [] }) ∷ []

-- the frames of its answers to the STORE and to the FETCH
abbrev pub done_frame : List ℕ
done_frame = frame done_answer

abbrev pub path_frame : List ℕ
path_frame = frame (payload_answer ones)

-- What comes back over each connection. The first one breaks off after the first answer, the second one gives both, and any
-- later one breaks off at once.
abbrev pub comes_over : ℕ → List ℕ
comes_over zero = done_frame
comes_over (suc zero) = done_frame ++ path_frame
comes_over (suc (suc count)) = []

-- the host after the first `count` connections: the first one brings it the STORE
abbrev pub host_after : ℕ → Host
host_after zero = new_host
host_after (suc count) = ones_host

-- the sizes of this disk, which say how long an answer may be
abbrev pub this_disk : DiskSizes
this_disk = record { device = one_block.device; overhead = 0 }

abbrev pub Bytes : Type 0
Bytes = Connection (List ℕ) (List ℕ)

abbrev pub OpensNext : ℕ → Limits → Bytes → ℕ → Type 0
OpensNext count limits line more = (line ≡ connection (comes_over count) [] this_disk) × (more ≡ suc count)

abbrev pub NeverFails : ℕ → Limits → Trouble → ℕ → Type 0
NeverFails count limits trouble more = ⊥

abbrev pub PausesBetween : ℕ → ℕ → ℕ → Type 0
PausesBetween count milliseconds more = more ≡ count

abbrev pub ReadsNoClock : ℕ → Option ℕ → ℕ → Type 0
ReadsNoClock count now more = (now ≡ None) × (more ≡ count)

-- The host to which the newest connection leads, given whether that connection is closed and which bytes are still to be read:
-- the host as it was when the connection was opened, or once all was read, as it is after that connection.
abbrev pub host_over : ℕ → Bool → List ℕ → Option Host
host_over count true unread = None
host_over count false [] = Some (host_after (suc count))
host_over count false (byte ∷ unread) = if bytes_eq (byte ∷ unread) (comes_over count) then Some (host_after count) else None

abbrev pub host_over_line : ℕ → Bytes → Option Host
host_over_line zero line = None
host_over_line (suc count) line = host_over count line.closed line.reader

abbrev pub host_now : ℕ → Option Bytes → Option Host
host_now count None = Some (host_after count)
host_now count (Some line) = host_over_line count line

-- over the first connection the FETCH has no answer, and over the second one both messages have
abbrev pub two_tries : List Exchange
two_tries = (store_body 0 0 ones, Ok done_answer) ∷ (fetch_body 0 0, Err Closed)
    ∷ (store_body 0 0 ones, Ok done_answer) ∷ (fetch_body 0 0, Ok (payload_answer ones)) ∷ []

-- a link with a reconnect timeout of one second, before it has opened a connection
abbrev pub fresh : ReconnectState ℕ Bytes
fresh = record { dialer = 0; line = None; reconnect_timeout = 1000; trouble = None; awaited = None }

-- the second connection, after it has carried the batch
abbrev pub emptied : Bytes
emptied = record { reader = []; writer = frame (store_body 0 0 ones) ++ frame (fetch_body 0 0); disk = this_disk; closed = false; due = record { unsent = []; left = 0 } }

abbrev pub done_link : ReconnectState ℕ Bytes
done_link = record { dialer = 2; line = Some emptied; reconnect_timeout = 1000; trouble = None; awaited = None }

-- the link once it has opened the second connection, over which it has sent nothing yet
abbrev pub second_opened : ReconnectState ℕ Bytes
second_opened = record { dialer = 2; line = Some (connection (comes_over 1) [] this_disk); reconnect_timeout = 1000; trouble = None; awaited = None }

-- what is exchanged over the second connection
abbrev pub second_try : List Exchange
second_try = (store_body 0 0 ones, Ok done_answer) ∷ (fetch_body 0 0, Ok (payload_answer ones)) ∷ []

-- The batch sends both messages again, and all connections lead to the host, which is honest in all exchanges. So it is if the answers over the
-- second connection are taken one by one.
abbrev pub TwoTriesExample : Type 0
TwoTriesExample = ((may_lie : Bool) → LeadToOneHost (dialer_kind OpensNext NeverFails PausesBetween ReadsNoClock (Plainly (StreamBatch known known))) may_lie one_block messages host_now)
    × (host_now fresh.dialer fresh.line ≡ Some new_host)
    × ReconnectBatch (dialer_kind OpensNext NeverFails PausesBetween ReadsNoClock (Plainly (StreamBatch known known))) fresh messages (Ok (done_answer ∷ payload_answer ones ∷ [])) two_tries done_link
    × HostRun new_host two_tries ones_host
    × Supplies ones_host messages (comes_over 1) × LeadsToHost new_host messages (comes_over 0) ones_host
    × (host_now second_opened.dialer second_opened.line ≡ Some ones_host)
    × GoesOnce (dialer_kind OpensNext NeverFails PausesBetween ReadsNoClock (Plainly (StreamBatch known known))) second_opened messages (Ok (done_answer ∷ payload_answer ones ∷ [])) second_try done_link
    × HostRun ones_host second_try ones_host
