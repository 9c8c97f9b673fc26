-- A process of the client: its core, its link, and where it keeps what has to outlive it.
use Rattle.std.specs.Prelude.{◌≡◌, ◌⊎◌, ℕ, Bool, true, false, List, [], ◌∷◌, ◌++◌, Some, map, ⊤}
use Rattle.std.specs.List.{AllByRecursion, FoldsTo, flat_map}
use Rattle.oram_geometry.specs.declared.Sizes.{Sizes}
use Rattle.oram_geometry.specs.Sizes.{IsDevice}
use Rattle.oram_host.specs.Host.{Host}
use Rattle.oram_semantics.specs.Events.{failed_reply}
use Rattle.oram_semantics.specs.NextFetches.{fetch_bodies, next_fetches}
use Rattle.oram_semantics.specs.Run.{Shown}
use Rattle.oram_semantics.specs.Scheme.{Scheme, record_len}
use Rattle.oram_semantics.specs.State.{State}
use Rattle.oram_semantics.specs.declared.events.Event.{Event}
use Rattle.oram_semantics.specs.declared.events.Event.TheVariants.{Reopen, Retry}
use Rattle.oram_semantics.specs.declared.events.Reply.{Reply}
use Rattle.oram_core.specs.Steps.{Steps}
use Rattle.oram_session.specs.Exchanges.{event_of}
use Rattle.oram_session.specs.Honesty.{HasFailed}
use Rattle.oram_session.specs.Outcome.{Outcome}
use Rattle.oram_session.specs.CoreWork.{outstanding}
use Rattle.oram_link_laws.specs.Repair.{AreAmong, IsAmong}
use Rattle.oram_link_laws.specs.Runs.{Exchange, bodies_of}
use Rattle.oram_rounds.specs.Batches.{BatchOutcome, SendsNothing}
use Rattle.oram_rounds.specs.Files.{IsFile}
use Rattle.oram_rounds.specs.CatchUp.{CatchesUp, PlainRun}
use Rattle.oram_rounds.specs.Law.{AreAhead, AreBatches}
use Rattle.oram_rounds.specs.PathMessages.{IsPathFetch}
use Rattle.oram_rounds.specs.Rounds.{Round, RoundCall, WentAhead, waiting}
use Rattle.oram_rounds.specs.Service.{AreReplied, ArrayAndQueue, IsServed, WillHoldAfter}

pub record Process (B K : Type 0) : Type 0 where
  pub core : State
  pub link : Round B
  pub keeper : K

abbrev pub process : {B K : Type 0} → State → Round B → K → Process B K
process core link keeper = record { core = core; link = link; keeper = keeper }

-- What a process does next, once its commands are submitted.
pub data Act : Type 0 where
  -- the core learns that it was reopened, or sends its message again
  Hears : Event → Shown → Act
  -- the link is called with the outstanding message, and the core hears what came of it
  Calls : Outcome → List Exchange → Shown → Act
  -- the same, but memory runs out before the core hears of it
  Misses : Outcome → List Exchange → Act
  -- the link sends the FETCHes ahead that the core asks for next
  GoesAhead : List Exchange → Act
  -- the STOREs that wait and the core are kept, or the keeper fails
  Keeps : Bool → Act

-- what a link exchanges with the host in an act
abbrev pub exchanges_of : Act → List Exchange
exchanges_of (Hears event x) = []
exchanges_of (Calls o exchanges x) = exchanges
exchanges_of (Misses o exchanges) = exchanges
exchanges_of (GoesAhead exchanges) = exchanges
exchanges_of (Keeps done) = []

-- what the core replies in an act
abbrev pub replies_of : Act → List Reply
replies_of (Hears event x) = []
replies_of (Calls o exchanges x) = x.replies
replies_of (Misses o exchanges) = []
replies_of (GoesAhead exchanges) = []
replies_of (Keeps done) = []

-- the keeper isn't asked to keep anything
abbrev pub KeepsNothing : List Act → Type 0
KeepsNothing [] = ⊤
KeepsNothing (Hears event x ∷ acts) = KeepsNothing acts
KeepsNothing (Calls o exchanges x ∷ acts) = KeepsNothing acts
KeepsNothing (Misses o exchanges ∷ acts) = KeepsNothing acts
KeepsNothing (GoesAhead exchanges ∷ acts) = KeepsNothing acts
KeepsNothing (Keeps done ∷ acts) = ⊥

-- the first act is to send FETCHes ahead, and nothing is kept after it
abbrev pub GoesAheadFirst : List Act → Type 0
GoesAheadFirst acts = (exchanges : List Exchange) × (rest : List Act) × (acts ≡ GoesAhead exchanges ∷ rest) × KeepsNothing rest

-- a round: the process keeps itself, and sends FETCHes ahead before it does anything else; it doesn't keep itself again
abbrev pub IsRound : List Act → Type 0
IsRound acts = (rest : List Act) × (acts ≡ Keeps true ∷ rest) × GoesAheadFirst rest

-- a round that a fault has ended: the keeper has failed; or the process has kept itself and done nothing more; or FETCHes went
-- ahead then, as in any round
abbrev pub IsBrokenRound : List Act → Type 0
IsBrokenRound acts = (acts ≡ Keeps false ∷ []) ⊎ ((acts ≡ Keeps true ∷ []) ⊎ IsRound acts)

-- the core learns that it was reopened, and sends its message again; then the process does such a round
abbrev pub IsResumption : (List Act → Type 0) → List Act → Type 0
IsResumption Round acts = (x y : Shown) × (round : List Act) × (acts ≡ Hears Reopen x ∷ Hears Retry y ∷ round) × Round round

-- a resumption that a fault has ended: after the core learned that it was reopened, or in its round
abbrev pub IsBrokenResumption : List Act → Type 0
IsBrokenResumption acts = ((x : Shown) × (acts ≡ Hears Reopen x ∷ [])) ⊎ IsResumption IsBrokenRound acts

-- Nothing of the message has gone to the host; or it is a FETCH, and the host has received only this FETCH and kept STOREs,
-- each perhaps several times.
abbrev pub IsSent : {B : Type 0} → Round B → List ℕ → List Exchange → Type 0
IsSent l message exchanges = (exchanges ≡ []) ⊎ (IsPathFetch l.device message × AreAmong (bodies_of exchanges) (l.kept ++ message ∷ []))

-- the FETCHes that the core asks for next: the first one of each command that waits
abbrev pub next_bodies : Sizes → State → List (List ℕ)
next_bodies d core = fetch_bodies (next_fetches d core)

-- Nothing has gone to the host; or these are FETCHes, and the host has received only them and kept STOREs, each perhaps several
-- times.
abbrev pub AreSentAhead : {B : Type 0} → Round B → List (List ℕ) → List Exchange → Type 0
AreSentAhead l fetches exchanges = (exchanges ≡ []) ⊎ (AllByRecursion (IsPathFetch l.device) fetches × AreAmong (bodies_of exchanges) (l.kept ++ fetches))

-- for a device, and a link that carries batches
module _ (v : Scheme) {B : Type 0} (batches : B → List (List ℕ) → BatchOutcome → List Exchange → B → Type 0) where
  -- a core and its link do this, and need no keeper for it
  abbrev pub Talks : State × Round B → Act → State × Round B → Type 0
  Talks p (Hears event x) q = ((event ≡ Reopen) ⊎ (event ≡ Retry)) × Steps v p.0 event x q.0 × (q.1 ≡ p.1)
  Talks p (Calls o exchanges x) q =
      (message : List ℕ) × (outstanding p.0 ≡ Some message) × RoundCall batches p.1 message o exchanges q.1 × Steps v p.0 (event_of o) x q.0
  Talks p (Misses o exchanges) q =
      (message : List ℕ) × (outstanding p.0 ≡ Some message) × RoundCall batches p.1 message o exchanges q.1 × (q.0 ≡ p.0)
  Talks p (GoesAhead exchanges) q = WentAhead batches p.1 (next_bodies v.device p.0) exchanges q.1 × (q.0 ≡ p.0)
  Talks p (Keeps done) q = ⊥

  -- several acts, one after the other
  abbrev pub TalksAll : State × Round B → List Act → State × Round B → Type 0
  TalksAll p acts q = FoldsTo {P = State × Round B} Talks p acts q

  -- a core and its link do some acts, and these are the replies of the core meanwhile
  pub record HasTalked (p : State × Round B) (replies : List Reply) (q : State × Round B) : Type 0 where
    pub acts : List Act
    pub talks : TalksAll p acts q
    pub replied : flat_map replies_of acts ≡ replies

-- for a device, a link that carries batches, and a keeper that says which bytes may be read back
module _ (v : Scheme) {B K : Type 0} (batches : B → List (List ℕ) → BatchOutcome → List Exchange → B → Type 0) (reads_back : K → List ℕ → Type 0) where
  -- what a process does in an act: the core and the link talk, or the keeper keeps the file
  abbrev pub Does : Process B K → Act → Process B K → Type 0
  Does p (Hears event x) q = Talks v batches (p.core, p.link) (Hears event x) (q.core, q.link) × (q.keeper ≡ p.keeper)
  Does p (Calls o exchanges x) q = Talks v batches (p.core, p.link) (Calls o exchanges x) (q.core, q.link) × (q.keeper ≡ p.keeper)
  Does p (Misses o exchanges) q = Talks v batches (p.core, p.link) (Misses o exchanges) (q.core, q.link) × (q.keeper ≡ p.keeper)
  Does p (GoesAhead exchanges) q = Talks v batches (p.core, p.link) (GoesAhead exchanges) (q.core, q.link) × (q.keeper ≡ p.keeper)
  -- once something is kept, nothing else is read back; the link below sends nothing meanwhile
  Does p (Keeps true) q =
      ((bytes : List ℕ) → reads_back q.keeper bytes → IsFile v bytes (waiting p.link) p.core)
      × (q.core ≡ p.core) × (q.link ≡ record p.link { inner = q.link.inner; kept = waiting p.link; held = []; ahead = [] })
      × SendsNothing batches p.link.inner q.link.inner
  -- if the keeper fails, the new file is read back, or the old one
  Does p (Keeps false) q =
      ((bytes : List ℕ) → reads_back q.keeper bytes → IsFile v bytes (waiting p.link) p.core ⊎ reads_back p.keeper bytes)
      × (q.core ≡ p.core) × (q.link ≡ p.link)

  -- several acts, one after the other
  abbrev pub DoesAll : Process B K → List Act → Process B K → Type 0
  DoesAll p acts q = FoldsTo {P = Process B K} Does p acts q

  -- The process ends while it does this. These bytes are read back, and the host has had these exchanges meanwhile.
  abbrev pub EndsIn : Process B K → Act → List ℕ → List Exchange → Type 0
  EndsIn p (Hears event x) bytes exchanges = reads_back p.keeper bytes × (exchanges ≡ [])
  EndsIn p (Calls o xs x) bytes exchanges =
      (message : List ℕ) × (outstanding p.core ≡ Some message) × reads_back p.keeper bytes × IsSent p.link message exchanges
  EndsIn p (Misses o xs) bytes exchanges =
      (message : List ℕ) × (outstanding p.core ≡ Some message) × reads_back p.keeper bytes × IsSent p.link message exchanges
  EndsIn p (GoesAhead xs) bytes exchanges = reads_back p.keeper bytes × AreSentAhead p.link (next_bodies v.device p.core) exchanges
  EndsIn p (Keeps done) bytes exchanges = (IsFile v bytes (waiting p.link) p.core ⊎ reads_back p.keeper bytes) × (exchanges ≡ [])

module _ (may_lie : Bool) (v : Scheme) where
  -- The bytes have a core that will hold one of two arrays, once the host has carried out the STOREs that they have. All that
  -- the host may still receive is among these STOREs.
  pub record IsKept (sent : List (List ℕ)) (bytes : List ℕ) (host : Host) (before array : ℕ → List ℕ) : Type 0 where
    pub stores : List (List ℕ)
    pub core : State
    pub file : IsFile v bytes stores core
    pub covers : (body : List ℕ) → IsAmong body sent → IsAmong body stores
    pub holds : WillHoldAfter may_lie v core stores host before ⊎ WillHoldAfter may_lie v core stores host array

  -- The device will hold the array, and whatever is read back will hold it too, or the one before.
  pub record IsSafe {B K : Type 0} (reads_back : K → List ℕ → Type 0) (p : Process B K) (host : Host) (before array : ℕ → List ℕ) : Type 0 where
    pub device : p.link.device ≡ v.device
    pub record_len_is : p.link.record_len ≡ record_len v
    pub live : WillHoldAfter may_lie v p.core (waiting p.link) host array
    pub kept : (bytes : List ℕ) → reads_back p.keeper bytes → IsKept p.link.kept bytes host before array
    pub ahead : AreAhead may_lie v host p.link

-- The other array that a read-back may give. Once the process has kept itself, there is no other.
abbrev pub earlier : List Act → (ℕ → List ℕ) → (ℕ → List ℕ) → ℕ → List ℕ
earlier [] before array = before
earlier (Keeps true ∷ acts) before array = earlier acts array array
earlier (Keeps false ∷ acts) before array = earlier acts before array
earlier (Hears event x ∷ acts) before array = earlier acts before array
earlier (Calls o exchanges x ∷ acts) before array = earlier acts before array
earlier (Misses o exchanges ∷ acts) before array = earlier acts before array
earlier (GoesAhead exchanges ∷ acts) before array = earlier acts before array

-- Whatever a process does, over a host that is honest or may lie, the device will hold the array. What is read back will hold
-- it too, or the array from before the last keeping.
abbrev pub ActsAreSafe : {B K : Type 0} → (B → List (List ℕ) → BatchOutcome → List Exchange → B → Type 0) → (K → List ℕ → Type 0) → Type 0
ActsAreSafe {B} {K} batches reads_back = AreBatches batches
    → (may_lie : Bool) (v : Scheme) (acts : List Act) (p q : Process B K) (host after : Host) (before array : ℕ → List ℕ) → IsDevice v.device
    → IsSafe may_lie v reads_back p host before array → DoesAll v batches reads_back p acts q → PlainRun may_lie v host (flat_map exchanges_of acts) after
    → IsSafe may_lie v reads_back q after (earlier acts before array) array

-- The same, wherever the process ends.
abbrev pub EndsAreSafe : {B K : Type 0} → (B → List (List ℕ) → BatchOutcome → List Exchange → B → Type 0) → (K → List ℕ → Type 0) → Type 0
EndsAreSafe {B} {K} batches reads_back = AreBatches batches
    → (may_lie : Bool) (v : Scheme) (p : Process B K) (act : Act) (bytes : List ℕ) (exchanges : List Exchange) (host after : Host) (before array : ℕ → List ℕ) → IsDevice v.device
    → IsSafe may_lie v reads_back p host before array → EndsIn v batches reads_back p act bytes exchanges → PlainRun may_lie v host exchanges after
    → IsKept may_lie v [] bytes after before array

-- A process that begins with what was read back: it has the core, and the STOREs are kept and wait.
abbrev pub begun : {B K : Type 0} → B → Scheme → List (List ℕ) → State → K → Process B K
begun inner v stores core keeper = record {
  core = core;
  link = record { inner = inner; device = v.device; record_len = record_len v; kept = stores; held = []; ahead = []; faults = 0 };
  keeper = keeper;
}

-- If nothing else is read back than what a process begins with, the device will hold the one array or the other, and so will
-- what is read back.
abbrev pub BegunIsSafe : (B : Type 0) {K : Type 0} → (K → List ℕ → Type 0) → Type 0
BegunIsSafe B {K} reads_back = (may_lie : Bool) (v : Scheme) (inner : B) (stores : List (List ℕ)) (core : State) (keeper : K) (bytes : List ℕ) (host : Host) (before array : ℕ → List ℕ)
    → (k : IsKept may_lie v [] bytes host before array) → k.stores ≡ stores → k.core ≡ core → ((other : List ℕ) → reads_back keeper other → other ≡ bytes)
    → IsSafe may_lie v reads_back (begun inner v stores core keeper) host before before ⊎ IsSafe may_lie v reads_back (begun inner v stores core keeper) host array array

-- The core goes on with the array, over the host as it will be, which may lie or not.
abbrev pub IsGoingOn : {B K : Type 0} → Bool → Scheme → Process B K → Host → (ℕ → List ℕ) → Type 0
IsGoingOn may_lie v p host array = (later : Host) × CatchesUp v host (waiting p.link) later × IsServed v p.core later array × AreAhead may_lie v host p.link

-- The commands at work have the array's replies, in their order, as far as they have any.
pub record HaveReplies {B K : Type 0} (may_lie : Bool) (v : Scheme) (p : Process B K) (array : ℕ → List ℕ) (replies : List Reply) (q : Process B K) (host : Host) : Type 0 where
  pub now : ℕ → List ℕ
  pub goes_on : IsGoingOn may_lie v q host now
  pub replied : AreReplied v.device (array, p.core.queue) replies (now, q.core.queue)

-- Or the device fails: some commands have the array's replies, and all others are answered as failed.
pub record HaveFailed {B K : Type 0} (may_lie : Bool) (v : Scheme) (p : Process B K) (array : ℕ → List ℕ) (replies : List Reply) (q : Process B K) : Type 0 where
  pub lies : may_lie ≡ true
  pub failed : HasFailed q.core
  pub given : List Reply
  pub left : ArrayAndQueue
  pub replied : AreReplied v.device (array, p.core.queue) given left
  pub all : replies ≡ given ++ map failed_reply left.1

-- The replies that a process gives are the array's, over an honest host; over one that may lie the device may fail.
abbrev pub RepliesAreTheArrays : {B K : Type 0} → (B → List (List ℕ) → BatchOutcome → List Exchange → B → Type 0) → (K → List ℕ → Type 0) → Type 0
RepliesAreTheArrays {B} {K} batches reads_back = AreBatches batches
    → (may_lie : Bool) (v : Scheme) (acts : List Act) (p q : Process B K) (host after : Host) (array : ℕ → List ℕ) → IsDevice v.device
    → p.link.device ≡ v.device → p.link.record_len ≡ record_len v → IsGoingOn may_lie v p host array → DoesAll v batches reads_back p acts q
    → PlainRun may_lie v host (flat_map exchanges_of acts) after
    → HaveReplies may_lie v p array (flat_map replies_of acts) q after ⊎ HaveFailed may_lie v p array (flat_map replies_of acts) q
