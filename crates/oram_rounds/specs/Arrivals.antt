-- FETCHes that go ahead, and STOREs behind them, whose answers arrive while the core works.
use Rattle.std.specs.Prelude.{◌≡◌, ◌⊎◌, ◌≤◌, ℕ, Bool, false, List, [], ◌++◌, drop, length, take, MatchBool, Err}
use Rattle.oram_semantics.specs.Scheme.{Scheme}
use Rattle.oram_semantics.specs.State.{State}
use Rattle.oram_semantics.specs.declared.events.Reply.{Reply}
use Rattle.oram_session.specs.declared.link.LinkFault.{LinkFault}
use Rattle.oram_link_laws.specs.Runs.{Exchange}
use Rattle.oram_rounds.specs.Batches.{BatchOutcome, BreaksOff, answered}
use Rattle.oram_rounds.specs.Overlay.{AreOverlaid}
use Rattle.oram_rounds.specs.PathMessages.{IsPathStore}
use Rattle.oram_rounds.specs.Process.{HasTalked}
use Rattle.oram_rounds.specs.Rounds.{AreDone, IsFirstAhead, Round, WentAhead}

-- what is known of answers that are still to come
pub record Awaited : Type 0 where
  pub due : List (List ℕ)  -- the FETCHes whose answers haven't come, the next one first
  pub full : Bool  -- memory ran out for an answer, so no other one is put ahead
  pub broken : Bool  -- the batch has broken off, and no answer comes any more

-- the link can answer the message without the host: it is a STORE, or the first FETCH ahead
abbrev pub IsAnsweredHere : {B : Type 0} → Round B → List ℕ → Type 0
IsAnsweredHere l message = IsPathStore l.device l.record_len message ⊎ IsFirstAhead l.ahead message

-- a link as it will be once a batch has ended: with another link below, with these STOREs kept, and with these FETCHes ahead behind the others
abbrev pub ended : {B : Type 0} → Round B → B → List (List ℕ) → List Exchange → Round B
ended l inner kept more = record l { inner = inner; kept = kept; ahead = l.ahead ++ more }

-- A core and its link talk, and the host takes no part: so it makes no difference what the link below is, which STOREs are kept, and what is
-- ahead behind these exchanges, which were put ahead meanwhile.
abbrev pub TalksMeanwhile : Scheme → {B : Type 0} → (B → List (List ℕ) → BatchOutcome → List Exchange → B → Type 0) → State → Round B → List Exchange → List Reply → State → Round B → Type 0
TalksMeanwhile v {B} batches s l put replies t m =
    (inner : B) (kept : List (List ℕ)) (more : List Exchange) → HasTalked v batches (s, ended l inner kept (put ++ more)) replies (t, ended m inner kept more)

-- they talk in this way until memory runs out, and what the core replied meanwhile is dropped
abbrev pub TalksUntilCut : Scheme → {B : Type 0} → (B → List (List ℕ) → BatchOutcome → List Exchange → B → Type 0) → State → Round B → List Exchange → State → Round B → Type 0
TalksUntilCut v {B} batches s l put t m =
    (inner : B) (kept : List (List ℕ)) (more : List Exchange) → (replies : List Reply) × HasTalked v batches (s, ended l inner kept (put ++ more)) replies (t, ended m inner kept more)

-- FETCHes go ahead, or nothing does, perhaps after a batch that had no answers; and then a core and its link talk, with these replies of the core
pub record GoesAheadAndTalks (v : Scheme) {B : Type 0} (batches : B → List (List ℕ) → BatchOutcome → List Exchange → B → Type 0) (p : State × Round B) (fetches : List (List ℕ)) (replies : List Reply) (q : State × Round B) : Type 0 where
  pub exchanges : List Exchange
  pub link : Round B
  pub went : WentAhead batches p.1 fetches exchanges link
  pub talked : HasTalked v batches (p.0, link) replies q

-- a link that holds nothing back, and has nothing ahead, began a batch with these FETCHes and the STOREs that it keeps
pub record WasBegun {B : Type 0} (streams : B → List (List ℕ) → List (List ℕ) → B → Type 0) (l : Round B) (fetches : List (List ℕ)) (m : Round B) : Type 0 where
  pub same : m ≡ record l { inner = m.inner }
  pub held : l.held ≡ []
  pub ahead : l.ahead ≡ []
  pub begun : streams l.inner (fetches ++ l.kept) [] m.inner

-- for a link with these batches and streams, which has sent these FETCHes ahead and the STOREs that it keeps behind them
module _ {B : Type 0} (batches : B → List (List ℕ) → BatchOutcome → List Exchange → B → Type 0) (streams : B → List (List ℕ) → List (List ℕ) → B → Type 0) (l : Round B) (fetches : List (List ℕ)) where
  -- the batch had these answers, and broke off
  abbrev pub HasBroken : List (List ℕ) → B → Type 0
  HasBroken answers inner = (fault : LinkFault) × (exchanges : List Exchange) × batches l.inner (fetches ++ l.kept) (Err fault) exchanges inner × BreaksOff (fetches ++ l.kept) answers exchanges

  -- These exchanges were put ahead: the first few FETCHes that have an answer, with the records of the STOREs laid over it. The other answers are
  -- still to come, or the batch has broken off.
  pub record AreArriving (put : List Exchange) (a : Awaited) (m : Round B) : Type 0 where
    pub same : m ≡ record l { inner = m.inner; held = m.held; ahead = m.ahead; faults = m.faults }
    pub given : List (List ℕ)
    pub few : length given ≤ length fetches
    pub laid : List (List ℕ)
    pub over : AreOverlaid l.device l.record_len l.kept (take (length given) fetches) given laid
    pub count : ℕ
    pub are_put : put ≡ take count (answered fetches laid)
    pub count_few : count ≤ length given
    pub all_put : a.full ≡ false → count ≡ length given
    pub come : MatchBool a.broken (HasBroken given m.inner) (streams l.inner (fetches ++ l.kept) given m.inner × (a.due ≡ drop (length given) fetches))

-- For a link with these batches and streams: the last messages of a batch are these STOREs, and all messages before them have answers. Each STORE has
-- its answer, and this tells whether the host has carried out all of them. Or the batch has broken off, and not all have one.
abbrev pub EndsAcks : {B : Type 0} → (B → List (List ℕ) → BatchOutcome → List Exchange → B → Type 0) → (B → List (List ℕ) → List (List ℕ) → B → Type 0) → B
    → List (List ℕ) → List (List ℕ) → List (List ℕ) → List (List ℕ) → Bool → B → Type 0
EndsAcks batches streams l before stores given acks done m =
    (streams l (before ++ stores) (given ++ acks) m × (length acks ≡ length stores) × MatchBool done (AreDone acks) (¬ AreDone acks))
    ⊎ ((done ≡ false) × (fault : LinkFault) × (exchanges : List Exchange) × batches l (before ++ stores) (Err fault) exchanges m × BreaksOff (before ++ stores) (given ++ acks) exchanges)
