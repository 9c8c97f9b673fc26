-- What can be wrong with a host, and a connection over which the host of a disk has answered.
use Rattle.std.specs.Prelude.{◌≡◌, ◌≢◌, ℕ, Bool, true, false, List, [], ◌∷◌, Option, Ok, MatchResult, ◌⊎◌}
use Rattle.oram_wire.specs.HostMessages.{fetch_body, no_room_answer, payload_answer}
use Rattle.oram_wire.specs.declared.host_messages.TheConstants.{GOOD, REFUSED}
use Rattle.oram_cli.specs.declared.sockets.SocketFault.{SocketFault}
use Rattle.oram_cli.specs.declared.sockets.SocketFault.TheVariants as socket
use Rattle.oram_stamps.specs.Known.{Stamps}
use Rattle.oram_stamps.specs.declared.known.Mismatch.{Mismatch}
use Rattle.oram_stamps.specs.declared.known.Mismatch.TheVariants as mismatch
use Rattle.oram_session.specs.declared.link.LinkFault.{LinkFault}
use Rattle.oram_session.specs.declared.link.LinkFault.TheVariants.{Io, Closed, TooLong, TooLarge, OutOfMemory}
use Rattle.oram_link_laws.specs.Runs.{Exchange}
use Rattle.oram_rounds.specs.Batches.{BatchOutcome}
use Rattle.oram_client.specs.AnswerLengths.{DiskSizes}
use Rattle.oram_client.specs.StreamBatches.{Connection, StreamBatch, connection}
use Rattle.oram_client.specs.declared.dialer.Trouble.{Trouble}
use Rattle.oram_client.specs.declared.dialer.Trouble.TheVariants.{OutOfReach, NoRoom, AnotherDisk, NoDisk, OlderState, OlderHost, NoStamps}

-- whether a trouble may pass while one waits
abbrev pub may_pass : Trouble → Bool
may_pass (OutOfReach fault) = true
may_pass NoRoom = true
may_pass AnotherDisk = false
may_pass NoDisk = false
may_pass OlderState = false
may_pass OlderHost = false
may_pass NoStamps = false

-- the link's fault for a socket that can't be used
abbrev pub link_fault : SocketFault → LinkFault
link_fault socket.Failed = Io
link_fault socket.OutOfMemory = OutOfMemory

-- whether the trouble is only that this program has no memory for what it sends or receives
abbrev pub lacks_memory : Trouble → Bool
lacks_memory (OutOfReach Io) = false
lacks_memory (OutOfReach Closed) = false
lacks_memory (OutOfReach TooLong) = false
lacks_memory (OutOfReach TooLarge) = false
lacks_memory (OutOfReach OutOfMemory) = true
lacks_memory NoRoom = false
lacks_memory AnotherDisk = false
lacks_memory NoDisk = false
lacks_memory OlderState = false
lacks_memory OlderHost = false
lacks_memory NoStamps = false

-- the fault that a link reports to its caller for a trouble
abbrev pub fault_of : Trouble → LinkFault
fault_of (OutOfReach fault) = fault
fault_of NoRoom = Closed
fault_of AnotherDisk = Closed
fault_of NoDisk = Closed
fault_of OlderState = Closed
fault_of OlderHost = Closed
fault_of NoStamps = Closed

-- the trouble with a host whose stamps don't fit what is known of them
abbrev pub mismatch_trouble : Mismatch → Trouble
mismatch_trouble mismatch.OlderState = OlderState
mismatch_trouble mismatch.OlderHost = OlderHost

-- the address of a disk's host, the identity of the disk that it has to keep, the key of that disk's stamps, what is known of them, and
-- the disk's sizes
pub record Destination : Type 0 where
  pub address : List ℕ
  pub identity : List ℕ
  pub key : List ℕ
  pub known : Stamps
  pub disk : DiskSizes

-- the message that asks for a disk's identity: the one record of tree 255
abbrev pub greeting : List ℕ
greeting = fetch_body 255 0

-- the message that asks for a host's stamps: the records of tree 254
abbrev pub stamps_question : List ℕ
stamps_question = fetch_body 254 0

-- what is wrong with the answer to the greeting
abbrev pub Shows : List ℕ → List ℕ → Trouble → Type 0
Shows identity answer (OutOfReach fault) = (fault ≡ Io) × (answer ≡ [] ⊎ (first : ℕ) × (rest : List ℕ) × (answer ≡ first ∷ rest) × (first ≢ GOOD) × (first ≢ REFUSED))
Shows identity answer NoRoom = answer ≡ no_room_answer
Shows identity answer AnotherDisk = (other : List ℕ) × (answer ≡ payload_answer other) × (other ≢ identity)
Shows identity answer NoDisk = (rest : List ℕ) × (answer ≡ REFUSED ∷ rest) × (answer ≢ no_room_answer)
Shows identity answer OlderState = ⊥
Shows identity answer OlderHost = ⊥
Shows identity answer NoStamps = ⊥

-- for streams whose bytes `remaining` and `contents` give
module _ {S : Type 0} (remaining contents : S → Option (List ℕ)) where
  -- The first batch over a connection is the greeting alone.
  abbrev pub SendsGreeting : S → S → DiskSizes → BatchOutcome → List Exchange → Connection S S → Type 0
  SendsGreeting reader writer disk outcome exchanges line = StreamBatch remaining contents (connection reader writer disk) (greeting ∷ []) outcome exchanges line

  -- The host answered with this identity.
  abbrev pub IsGreetedOver : S → S → DiskSizes → List ℕ → Connection S S → Type 0
  IsGreetedOver reader writer disk identity line = (exchanges : List Exchange) × SendsGreeting reader writer disk (Ok (payload_answer identity ∷ [])) exchanges line

  -- Memory ran out before the host was asked, or the batch had a fault, or the host gave another
  -- answer.
  abbrev pub IsUngreetedOver : S → S → DiskSizes → List ℕ → Trouble → Type 0
  IsUngreetedOver reader writer disk identity trouble = (trouble ≡ OutOfReach OutOfMemory)
      ⊎ ((outcome : BatchOutcome) × (exchanges : List Exchange) × (line : Connection S S) × SendsGreeting reader writer disk outcome exchanges line
      × MatchResult outcome (λ answers. (answer : List ℕ) × (answers ≡ answer ∷ []) × Shows identity answer trouble) (λ fault. trouble ≡ OutOfReach fault))

  -- The host answered with this identity over some connection.
  abbrev pub IsGreeted : DiskSizes → List ℕ → Connection S S → Type 0
  IsGreeted disk identity line = (reader : S) × (writer : S) × IsGreetedOver reader writer disk identity line

  -- There was no connection, or the host didn't answer with this identity over one.
  abbrev pub IsUngreeted : DiskSizes → List ℕ → Trouble → Type 0
  IsUngreeted disk identity trouble = ((fault : LinkFault) × (trouble ≡ OutOfReach fault)) ⊎ ((reader : S) × (writer : S) × IsUngreetedOver reader writer disk identity trouble)
