-- A dialer whose host has to show stamps that it may have, and which puts a stamp there with each batch.
use Rattle.std.specs.Prelude.{◌≡◌, ◌≢◌, ◌⊎◌, ℕ, ◌<◌, ◌^◌, List, [], ◌∷◌, ◌++◌, Option, Result, Ok, Err, MatchResult}
use Rattle.oram_wire.specs.HostMessages.{done_answer, no_room_answer, payload_answer, put_body}
use Rattle.oram_wire.specs.declared.host_messages.TheConstants.{GOOD, REFUSED}
use Rattle.oram_session.specs.declared.link.LinkFault.{LinkFault}
use Rattle.oram_session.specs.declared.link.LinkFault.TheVariants.{Closed, Io, OutOfMemory}
use Rattle.oram_link_laws.specs.Repair.{IsAmong}
use Rattle.oram_link_laws.specs.Runs.{Exchange}
use Rattle.oram_rounds.specs.Batches.{BatchOutcome, IsBatch}
use Rattle.oram_stamps.specs.Known.{IsMismatch, IsSent, IsSettled, IsTakenOver, Stamps, answered, next_stamp}
use Rattle.oram_stamps.specs.Stamps.{AreNumbers, shown_text}
use Rattle.oram_stamps.specs.declared.known.Mismatch.{Mismatch}
use Rattle.oram_stamps.specs.declared.stamp.Place.TheVariants.{Begun, Done}
use Rattle.oram_stamps.specs.declared.stamp.Shown.{Shown}
use Rattle.oram_client.specs.Attempts.{Attempt, attempt_for, link_outcome}
use Rattle.oram_client.specs.Dialer.{Destination, IsGreeted, IsUngreeted, mismatch_trouble, stamps_question}
use Rattle.oram_client.specs.StampMessages.{stamp_put}
use Rattle.oram_client.specs.declared.identity.TheConstants.{STAMP_TREE}
use Rattle.oram_client.specs.StreamBatches.{Connection, StreamAsk, StreamBatch, Streams, cut_short}
use Rattle.oram_client.specs.declared.dialer.Trouble.{Trouble}
use Rattle.oram_client.specs.declared.dialer.Trouble.TheVariants.{OutOfReach, NoRoom, AnotherDisk, NoDisk, OlderState, OlderHost, NoStamps}

-- what is wrong with the answer to the message that asks for the stamps
abbrev pub ShowsNoStamps : List ℕ → List ℕ → Trouble → Type 0
ShowsNoStamps key answer (OutOfReach fault) = (fault ≡ Io) × (answer ≡ [] ⊎ (first : ℕ) × (rest : List ℕ) × (answer ≡ first ∷ rest) × (first ≢ GOOD) × (first ≢ REFUSED))
ShowsNoStamps key answer NoRoom = answer ≡ no_room_answer
ShowsNoStamps key answer AnotherDisk = ⊥
ShowsNoStamps key answer NoDisk = ⊥
ShowsNoStamps key answer OlderState = ⊥
ShowsNoStamps key answer OlderHost = ⊥
ShowsNoStamps key answer NoStamps = (shown : Shown) → AreNumbers shown.begun → AreNumbers shown.done → answer ≢ payload_answer (shown_text key shown)

-- What is wrong with the answers to the two messages that put a stamp: the host has no room for one of them, or it refuses one
-- otherwise.
abbrev pub ArePutFor : List ℕ → List ℕ → Trouble → Type 0
ArePutFor begun done NoRoom = (begun ≡ no_room_answer) ⊎ (done ≡ no_room_answer)
ArePutFor begun done NoStamps = ¬ ((begun ≡ done_answer) × (done ≡ done_answer)) × (begun ≢ no_room_answer) × (done ≢ no_room_answer)
ArePutFor begun done (OutOfReach fault) = ⊥
ArePutFor begun done AnotherDisk = ⊥
ArePutFor begun done NoDisk = ⊥
ArePutFor begun done OlderState = ⊥
ArePutFor begun done OlderHost = ⊥

-- what is wrong with the answer to one of them
abbrev pub IsPutFor : List ℕ → Trouble → Type 0
IsPutFor answer NoRoom = answer ≡ no_room_answer
IsPutFor answer NoStamps = (answer ≢ done_answer) × (answer ≢ no_room_answer)
IsPutFor answer (OutOfReach fault) = ⊥
IsPutFor answer AnotherDisk = ⊥
IsPutFor answer NoDisk = ⊥
IsPutFor answer OlderState = ⊥
IsPutFor answer OlderHost = ⊥

-- Of the answers to a batch between its stamps, the answers to the two stamps were taken out: the first answer and the last one.
pub record TakesStamps {A : Type 0} (answers : List (List ℕ)) (result : Result A Trouble) (left : List (List ℕ)) : Type 0 where
  pub begun : List ℕ
  pub done : List ℕ
  pub all : answers ≡ begun ∷ (left ++ done ∷ [])
  pub puts : MatchResult result (λ put. (begun ≡ done_answer) × (done ≡ done_answer)) (λ trouble. ArePutFor begun done trouble)

-- the messages of a batch between its stamps
abbrev pub between : List ℕ → List (List ℕ) → List ℕ → List (List ℕ)
between begun bodies done = begun ∷ (bodies ++ done ∷ [])

-- a message that puts a record into the stamps' tree
abbrev pub IsStampPut : List ℕ → Type 0
IsStampPut body = (node : ℕ) × (bytes : List ℕ) × (node < 2 ^ 32) × (body ≡ put_body STAMP_TREE node bytes)

-- some of the exchanges whose messages put stamps are left out, and no others
abbrev pub LeavesOut : List Exchange → List Exchange → Type 0
LeavesOut [] exchanges = exchanges ≡ []
LeavesOut (e ∷ heard) exchanges = (IsStampPut e.0 × LeavesOut heard exchanges) ⊎ ((rest : List Exchange) × (exchanges ≡ e ∷ rest) × LeavesOut heard rest)

-- what a dialer knows of its host's stamps
abbrev pub with_known : Destination → Stamps → Destination
with_known d known = record d { known = known }

-- What is known once a batch's own messages have these answers. The host has begun and done the batch, unless it had no room for one of
-- the messages: then the batch is sent again, and has another stamp.
abbrev pub IsLearnt : Stamps → List (List ℕ) → Stamps → Type 0
IsLearnt known given known' = (IsAmong no_room_answer given × (known' ≡ known)) ⊎ (¬ IsAmong no_room_answer given × (known' ≡ answered known))

-- what a batch between its stamps comes to, given what is known once it is sent
abbrev pub ComesTo : Destination → Stamps → BatchOutcome → Attempt → Destination → Type 0
ComesTo d known (Ok answers) came e = (left : List (List ℕ)) × TakesStamps answers came left
    × MatchResult came (λ given. (given ≡ left) × ((known' : Stamps) × IsLearnt known given known' × (e ≡ with_known d known'))) (λ trouble. e ≡ with_known d known)
ComesTo d known (Err fault) came e = (came ≡ Err (OutOfReach fault)) × (e ≡ with_known d known)

-- for streams whose bytes `remaining` and `contents` give
module _ {S : Type 0} (remaining contents : S → Option (List ℕ)) where
  abbrev pub Line : Type 0
  Line = Connection S S

  -- the host gave these stamps
  abbrev pub GivesStamps : List ℕ → Line → Shown → Line → Type 0
  GivesStamps key line shown line' = (exchanges : List Exchange) × StreamBatch remaining contents line (stamps_question ∷ []) (Ok (payload_answer (shown_text key shown) ∷ [])) exchanges line'

  -- Memory ran out before the host was asked, or the batch had a fault, or the host gave another answer.
  abbrev pub GivesNoStamps : List ℕ → Line → Trouble → Line → Type 0
  GivesNoStamps key line trouble line' = (trouble ≡ OutOfReach OutOfMemory)
      ⊎ ((outcome : BatchOutcome) × (exchanges : List Exchange) × StreamBatch remaining contents line (stamps_question ∷ []) outcome exchanges line'
      × MatchResult outcome (λ answers. (answer : List ℕ) × (answers ≡ answer ∷ []) × ShowsNoStamps key answer trouble) (λ fault. trouble ≡ OutOfReach fault))

  -- The host gave stamps that it may have by what is known. They are known afterwards.
  pub record IsCompared (d : Destination) (greeted line : Line) (e : Destination) : Type 0 where
    pub shown : Shown
    pub gives : GivesStamps d.key greeted shown line
    pub known : Stamps
    pub taken : IsTakenOver d.known shown known
    pub after : e ≡ with_known d known

  -- A connection was opened: the host gave the disk's identity, and stamps that it may have.
  abbrev pub Opens : Destination → Line → Destination → Type 0
  Opens d line e = (greeted : Line) × IsGreeted remaining contents d.disk d.identity greeted × IsCompared d greeted line e

  -- The host gave the disk's identity, but no stamps, or stamps that it may not have by what is known; or the connection failed then.
  abbrev pub IsUncompared : Destination → Line → Trouble → Type 0
  IsUncompared d greeted trouble =
      ((line : Line) × GivesNoStamps d.key greeted trouble line)
      ⊎ ((line : Line) × (shown : Shown) × (why : Mismatch) × GivesStamps d.key greeted shown line × IsMismatch d.known shown why × (trouble ≡ mismatch_trouble why))
      ⊎ ((fault : LinkFault) × (trouble ≡ OutOfReach fault))

  -- There was no connection, or the host didn't give the disk's identity over one, or no stamps that it may have.
  abbrev pub FailsToOpen : Destination → Trouble → Type 0
  FailsToOpen d trouble = IsUngreeted remaining contents d.disk d.identity trouble
      ⊎ ((greeted : Line) × IsGreeted remaining contents d.disk d.identity greeted × IsUncompared d greeted trouble)

  -- There was no memory for the messages that put the stamps, and nothing was sent.
  pub record IsUnsent (d : Destination) (line : Line) (came : Attempt) (exchanges : List Exchange) (e : Destination) (line' : Line) : Type 0 where
    pub says : came ≡ Err (OutOfReach OutOfMemory)
    pub none : exchanges ≡ []
    pub same_line : line' ≡ line
    pub same : e ≡ d

  -- The host is known to have begun and done a batch of the last keeping, so this one needs no stamps.
  pub record IsPlain (d : Destination) (line : Line) (bodies : List (List ℕ)) (came : Attempt) (exchanges : List Exchange) (e : Destination) (line' : Line) : Type 0 where
    pub settled : IsSettled d.known
    pub outcome : BatchOutcome
    pub batch : StreamBatch remaining contents line bodies outcome exchanges line'
    pub says : came ≡ attempt_for outcome
    pub same : e ≡ d

  -- All messages of the batch go between those that put its stamp at both places. The exchanges of these two are left out.
  pub record IsBetween (d : Destination) (line : Line) (bodies : List (List ℕ)) (came : Attempt) (exchanges : List Exchange) (e : Destination) (line' : Line) : Type 0 where
    pub known : Stamps
    pub sent : IsSent d.known known
    pub outcome : BatchOutcome
    pub heard : List Exchange
    pub batch : StreamBatch remaining contents line (between (stamp_put d.key Begun (next_stamp d.known)) bodies (stamp_put d.key Done (next_stamp d.known))) outcome heard line'
    pub comes : ComesTo d known outcome came e
    pub left : LeavesOut heard exchanges
    pub is_batch : IsBatch bodies (link_outcome came) exchanges

  -- The host didn't put the stamp as begun, and the batch broke off there: no other answers were read.
  pub record IsStopped (d : Destination) (line : Line) (bodies : List (List ℕ)) (came : Attempt) (exchanges : List Exchange) (e : Destination) (line' : Line) : Type 0 where
    pub known : Stamps
    pub sent : IsSent d.known known
    pub answer : List ℕ
    pub read : Streams remaining contents line (between (stamp_put d.key Begun (next_stamp d.known)) bodies (stamp_put d.key Done (next_stamp d.known))) (answer ∷ []) line'
    pub trouble : Trouble
    pub wrong : IsPutFor answer trouble
    pub says : came ≡ Err trouble
    pub unheard : exchanges ≡ cut_short bodies [] Closed
    pub after : e ≡ with_known d known

  abbrev pub CarriesStamped : Destination → Line → List (List ℕ) → Attempt → List Exchange → Destination → Line → Type 0
  CarriesStamped d line bodies came exchanges e line' =
      IsUnsent d line came exchanges e line' ⊎ IsPlain d line bodies came exchanges e line' ⊎ IsBetween d line bodies came exchanges e line'
      ⊎ IsStopped d line bodies came exchanges e line'

-- Messages may go ahead of their answers only if their batch needs no stamps.
abbrev pub AsksPlainly : {S : Type 0} → (S → Option (List ℕ)) → Destination → Connection S S → List (List ℕ) → Connection S S → Type 0
AsksPlainly contents d line bodies line' = IsSettled d.known × StreamAsk contents line bodies line'
