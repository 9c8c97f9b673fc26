-- A link that holds STOREs back until they are kept.
use Rattle.std.specs.Prelude.{◌≡◌, ◌≢◌, ◌⊎◌, ◌≤◌, ℕ, ◌==◌, ◌&&◌, Bool, if◌then◌else◌, List, [], ◌∷◌, ◌++◌, length, slice_index, take, Ok, Err, MatchResult}
use Rattle.std.specs.List.{AllByRecursion}
use Rattle.oram_geometry.specs.declared.Sizes.{Sizes}
use Rattle.oram_wire.specs.HostMessages.{done_answer}
use Rattle.oram_wire.specs.declared.host_messages.TheConstants.{REFUSED}
use Rattle.oram_session.specs.Outcome.{Outcome, faults_after}
use Rattle.oram_session.specs.declared.link.LinkFault.{LinkFault}
use Rattle.oram_session.specs.declared.link.LinkFault.TheVariants.{Closed, OutOfMemory}
use Rattle.oram_link_laws.specs.Repair.{IsAmong}
use Rattle.oram_link_laws.specs.Runs.{Exchange}
use Rattle.oram_rounds.specs.Batches.{BatchOutcome, BreaksOff, answered}
use Rattle.oram_rounds.specs.Overlay.{AreOverlaid, IsOverlaid}
use Rattle.oram_rounds.specs.PathMessages.{IsPathFetch, IsPathStore}

-- a link over another one that carries batches, for a device whose records have this length
pub record Round (B : Type 0) : Type 0 where
  pub inner : B
  pub device : Sizes
  pub record_len : ℕ
  pub kept : List (List ℕ)  -- STOREs that are kept, and that the host hasn't acknowledged
  pub held : List (List ℕ)  -- STOREs since then
  pub ahead : List Exchange  -- FETCHes that went ahead and that the core hasn't asked for yet, with their answers
  pub faults : ℕ  -- how many calls had a fault

-- the STOREs that the host has still to carry out, the oldest first
abbrev pub waiting : {B : Type 0} → Round B → List (List ℕ)
waiting l = l.kept ++ l.held

-- what the core receives if the host doesn't acknowledge a STORE: the host's refusal, or no bytes
abbrev pub is_refusal_body : List ℕ → Bool
is_refusal_body answer = (length answer == 2) && (slice_index answer 0 == REFUSED)

abbrev pub refused_with : List ℕ → List ℕ
refused_with answer = if is_refusal_body answer then answer else []

-- each of these answers says that the host has done what it was asked
abbrev pub AreDone : List (List ℕ) → Type 0
AreDone answers = AllByRecursion (λ answer. answer ≡ done_answer) answers

-- the FETCH is the first one ahead
abbrev pub IsFirstAhead : List Exchange → List ℕ → Type 0
IsFirstAhead [] body = ⊥
IsFirstAhead (e ∷ rest) body = e.0 ≡ body

-- over a link whose batches have this relation (the bodies, the outcome, and the exchanges with the host), for a device
-- with records of this length
module _ {B : Type 0} (batches : B → List (List ℕ) → BatchOutcome → List Exchange → B → Type 0) (d : Sizes) (record_len : ℕ) where
  -- a STORE is added to those that wait, and answered at once
  pub record HoldsBack (l : Round B) (body : List ℕ) (o : Outcome) (exchanges : List Exchange) (m : Round B) : Type 0 where
    pub path : IsPathStore d record_len body
    pub answer : o ≡ Ok done_answer
    pub none : exchanges ≡ []
    pub same : m.inner ≡ l.inner
    pub kept : m.kept ≡ l.kept
    pub held : m.held ≡ l.held ++ body ∷ []
    pub ahead : m.ahead ≡ l.ahead

  -- the answers to the STOREs that were kept, and the one to the FETCH after them
  pub record Gives (l : Round B) {body : List ℕ} (fetch : IsPathFetch d body) (answers : List (List ℕ)) (o : Outcome) (m : Round B) : Type 0 where
    pub acks : List (List ℕ)
    pub answer : List ℕ
    pub all : answers ≡ acks ++ answer ∷ []
    pub either :
        (AreDone acks × (m.kept ≡ []) × (given : List ℕ) × (o ≡ Ok given) × IsOverlaid d record_len fetch.tree fetch.leaf l.held answer given)
        ⊎ ((m.kept ≡ l.kept) × (refusal : List ℕ) × IsAmong refusal acks × (refusal ≢ done_answer) × (o ≡ Ok (refused_with refusal)))

  -- a FETCH that isn't the first one ahead goes to the host after the STOREs that are kept
  pub record Fetches (l : Round B) (body : List ℕ) (o : Outcome) (exchanges : List Exchange) (m : Round B) : Type 0 where
    pub path : IsPathFetch d body
    pub not_ahead : ¬ IsFirstAhead l.ahead body
    pub outcome : BatchOutcome
    pub batch : batches l.inner (l.kept ++ body ∷ []) outcome exchanges m.inner
    pub held : m.held ≡ l.held
    pub ahead : m.ahead ≡ l.ahead
    pub gives : MatchResult outcome (λ answers. Gives l path answers o m) (λ fault. (o ≡ Err fault) × (m.kept ≡ l.kept))

  -- Nothing goes to the host: memory ran out, or this is neither a FETCH nor a STORE of a path of the device. A core at work
  -- sends nothing else.
  pub record Declines (l : Round B) (body : List ℕ) (o : Outcome) (exchanges : List Exchange) (m : Round B) : Type 0 where
    pub fault : LinkFault
    pub why : (fault ≡ OutOfMemory) ⊎ ((fault ≡ Closed) × (¬ IsPathFetch d body) × (¬ IsPathStore d record_len body))
    pub answer : o ≡ Err fault
    pub none : exchanges ≡ []
    pub same : m.inner ≡ l.inner
    pub kept : m.kept ≡ l.kept
    pub held : m.held ≡ l.held
    pub ahead : m.ahead ≡ l.ahead

  -- the FETCH is the first one ahead: its answer is here
  pub record TakesAhead (l : Round B) (body : List ℕ) (o : Outcome) (exchanges : List Exchange) (m : Round B) : Type 0 where
    pub path : IsPathFetch d body
    pub answer : List ℕ
    pub next : l.ahead ≡ (body, Ok answer) ∷ m.ahead
    pub given : List ℕ
    pub reported : o ≡ Ok given
    pub over : IsOverlaid d record_len path.tree path.leaf l.held answer given
    pub none : exchanges ≡ []
    pub same : m.inner ≡ l.inner
    pub kept : m.kept ≡ l.kept
    pub held : m.held ≡ l.held

  abbrev pub Does : Round B → List ℕ → Outcome → List Exchange → Round B → Type 0
  Does l body o exchanges m = HoldsBack l body o exchanges m ⊎ (Fetches l body o exchanges m ⊎ (Declines l body o exchanges m ⊎ TakesAhead l body o exchanges m))

  -- The first of the FETCHes have these answers, and the host may not have carried out all STOREs that are kept: these stay. Nothing is ahead.
  -- Or no other STOREs are held back, and the first few of the FETCHes with an answer are ahead, with the records of these STOREs laid over it.
  pub record LeavesAhead (l : Round B) (fetches given : List (List ℕ)) (m : Round B) : Type 0 where
    pub kept : m.kept ≡ l.kept
    pub either : (m.ahead ≡ [])
        ⊎ ((l.held ≡ []) × (laid : List (List ℕ)) × AreOverlaid d record_len l.kept (take (length given) fetches) given laid
        × (count : ℕ) × (m.ahead ≡ take count (answered fetches laid)))

  -- The answers to the FETCHes, and those to the STOREs that were kept. If each STORE was carried out, the first few of the FETCHes are ahead,
  -- with the records of these STOREs laid over their answers: all of them, unless memory ran out.
  pub record GivesAhead (l : Round B) (fetches answers : List (List ℕ)) (m : Round B) : Type 0 where
    pub given : List (List ℕ)
    pub acks : List (List ℕ)
    pub all : answers ≡ given ++ acks
    pub count : length given ≡ length fetches
    pub either :
        (AreDone acks × (m.kept ≡ []) × (laid : List (List ℕ)) × AreOverlaid d record_len l.kept fetches given laid
        × (count : ℕ) × (m.ahead ≡ take count (answered fetches laid)))
        ⊎ ((¬ AreDone acks) × LeavesAhead l fetches given m)

  -- the batch has a fault, and the first of the FETCHes had answers before it
  pub record BreaksAhead (l : Round B) (fetches : List (List ℕ)) (exchanges : List Exchange) (m : Round B) : Type 0 where
    pub given : List (List ℕ)
    pub acks : List (List ℕ)
    pub few : length given ≤ length fetches
    pub breaks : BreaksOff (fetches ++ l.kept) (given ++ acks) exchanges
    pub in_turn : (length given ≡ length fetches) ⊎ (acks ≡ [])
    pub leaves : LeavesAhead l fetches given m

  -- one or more FETCHes go to the host before the core asks for them, and the STOREs that are kept go behind them
  pub record SendsAhead (l : Round B) (fetches : List (List ℕ)) (exchanges : List Exchange) (m : Round B) : Type 0 where
    pub some : fetches ≢ []
    pub paths : AllByRecursion (IsPathFetch d) fetches
    pub outcome : BatchOutcome
    pub batch : batches l.inner (fetches ++ l.kept) outcome exchanges m.inner
    pub gives : MatchResult outcome (λ answers. GivesAhead l fetches answers m) (λ fault. BreaksAhead l fetches exchanges m)

  -- nothing goes ahead: there are no FETCHes, or one of these messages is no FETCH of a path of the device
  pub record SendsNone (l : Round B) (fetches : List (List ℕ)) (exchanges : List Exchange) (m : Round B) : Type 0 where
    pub why : (fetches ≡ []) ⊎ ¬ AllByRecursion (IsPathFetch d) fetches
    pub none : exchanges ≡ []
    pub same : m.inner ≡ l.inner
    pub kept : m.kept ≡ l.kept
    pub ahead : m.ahead ≡ []

pub record RoundCall {B : Type 0} (batches : B → List (List ℕ) → BatchOutcome → List Exchange → B → Type 0) (l : Round B) (body : List ℕ) (o : Outcome) (exchanges : List Exchange) (m : Round B) : Type 0 where
  pub device : m.device ≡ l.device
  pub record_len : m.record_len ≡ l.record_len
  pub does : Does batches l.device l.record_len l body o exchanges m

-- FETCHes go ahead, or nothing does; what went ahead before is forgotten
pub record WentAhead {B : Type 0} (batches : B → List (List ℕ) → BatchOutcome → List Exchange → B → Type 0) (l : Round B) (fetches : List (List ℕ)) (exchanges : List Exchange) (m : Round B) : Type 0 where
  pub device : m.device ≡ l.device
  pub record_len : m.record_len ≡ l.record_len
  pub held : m.held ≡ l.held
  pub does : SendsAhead batches l.device l.record_len l fetches exchanges m ⊎ SendsNone batches l.device l.record_len l fetches exchanges m

-- such a call, with some exchanges; the number of faults rises if the call has one
pub record IsCounted {B : Type 0} (batches : B → List (List ℕ) → BatchOutcome → List Exchange → B → Type 0) (l : Round B) (body : List ℕ) (o : Outcome) (m : Round B) : Type 0 where
  pub exchanges : List Exchange
  pub call : RoundCall batches l body o exchanges m
  pub faults : m.faults ≡ faults_after l.faults o
