-- A link over a reader whose bytes are known: they are a server's answers.
use Rattle.std.specs.Prelude.{◌≡◌, ℕ, List, [], ◌∷◌, ◌++◌, Option, Some, ⊤}
use Rattle.std.specs.List.{FoldsTo}
use Rattle.oram_geometry.specs.Sizes.{IsDevice}
use Rattle.oram_wire.specs.FrameStream.{IsBody, frame}
use Rattle.oram_wire.specs.HostMessages.{answer_body}
use Rattle.oram_wire.specs.HostBodies.{IsAnswer}
use Rattle.oram_wire.specs.declared.host_messages.HostAnswer.{HostAnswer}
use Rattle.oram_host.specs.Host.{Host}
use Rattle.oram_host.specs.Service.{Serves}
use Rattle.oram_semantics.specs.Scheme.{Scheme}
use Rattle.oram_semantics.specs.State.{State}
use Rattle.oram_session.specs.Honesty.{IsArrayTurn}
use Rattle.oram_session.specs.Streams.{StreamCall, ToStreams}
use Rattle.oram_session.specs.Turns.{Turn, IsTurn}
use Rattle.oram_link_laws.specs.Runs.{Exchange, HostRun, IsHeldBy, LinkRun, bodies_of, exchanges_in}

-- the bytes begin with the frames of the answers that a server gives to these bodies, one after the other
abbrev pub Supplies : Host → List (List ℕ) → List ℕ → Type 0
Supplies host [] bytes = ⊤
Supplies host (body ∷ bodies) bytes =
    (answer : HostAnswer) × (after : Host) × (rest : List ℕ) × IsAnswer answer × IsBody (answer_body answer) × Serves host body answer after
    × (bytes ≡ frame (answer_body answer) ++ rest) × Supplies after bodies rest

-- over a reader and a writer; these functions give the bytes still to be read and those written, if they are known
module _ {R W : Type 0} (remaining : R → Option (List ℕ)) (contents : W → Option (List ℕ)) where
  -- If the reader's bytes are known to be a server's answers to the messages, then that server is honest in the exchanges of
  -- the link's calls, whatever outcomes these had, even faults.
  abbrev pub StreamsAreRun : Type 0
  StreamsAreRun = (l m : ToStreams R W) (exchanges : List Exchange) (host : Host) (bytes : List ℕ) → remaining l.reader ≡ Some bytes
      → Supplies host (bodies_of exchanges) bytes → LinkRun (StreamCall remaining contents) l exchanges m
      → (left : Host) × HostRun host exchanges left

  -- So the replies of a session over such a link are those of the array, if the server keeps what the device holds.
  abbrev pub StreamedSessionsAreTheArrays : Type 0
  StreamedSessionsAreTheArrays = (v : Scheme) (words : ℕ → ℕ → List ℕ) (session : ℕ) (p q : State × ToStreams R W) (turns : List Turn) (host : Host) (array : ℕ → List ℕ) (bytes : List ℕ)
      → IsDevice v.device → IsHeldBy v p.0 host array → FoldsTo {P = State × ToStreams R W} (IsTurn v (StreamCall remaining contents) words session) p turns q
      → remaining p.1.reader ≡ Some bytes → Supplies host (bodies_of (exchanges_in turns)) bytes
      → (left : Host) × (after : ℕ → List ℕ) × FoldsTo {P = ℕ → List ℕ} (IsArrayTurn v.device) array turns after × IsHeldBy v q.0 left after
