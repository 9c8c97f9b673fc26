-- One message of the core, and the outcomes of the calls with it.
use Rattle.std.specs.Prelude.{◌≡◌, ℕ, ◌≤◌, Bool, true, false, List, [], ◌∷◌, ◌++◌, length, Some, Ok, Err, All, ◌⊎◌}
use Rattle.std.specs.List.{flat_map, FoldsTo}
use Rattle.std.specs.Str.{bytes_eq}
use Rattle.oram_semantics.specs.Run.{Shown}
use Rattle.oram_semantics.specs.Scheme.{Scheme}
use Rattle.oram_semantics.specs.State.{State}
use Rattle.oram_semantics.specs.declared.events.Event.{Event}
use Rattle.oram_semantics.specs.declared.events.Event.TheVariants.{Answer, Lost, Retry}
use Rattle.oram_semantics.specs.declared.events.Reply.{Reply}
use Rattle.oram_core.specs.Steps.{Steps}
use Rattle.oram_session.specs.Outcome.{Outcome}
use Rattle.oram_session.specs.CoreWork.{outstanding}
use Rattle.oram_wire.specs.HostMessages.{no_room_answer}

-- the event that a call's outcome gives to the core
abbrev pub event_of : Outcome → Event
event_of (Ok bytes) = Answer bytes
event_of (Err fault) = Lost

-- the call stalls: it gives no answer, or the host has no room
abbrev pub is_stall : Outcome → Bool
is_stall (Ok bytes) = bytes_eq bytes no_room_answer
is_stall (Err fault) = true

-- the events lead the core from state s to state t, and these are all its replies
abbrev pub Runs : Scheme → State → List Event → List Reply → State → Type 0
Runs v s [] replies t = (replies ≡ []) × (s ≡ t)
Runs v s (event ∷ events) replies t =
    (x : Shown) × (mid : State) × (later : List Reply) × Steps v s event x mid × Runs v mid events later t × (replies ≡ x.replies ++ later)

-- A message and the outcome of each call with it: those of the calls that stalled and were followed by another, and
-- the last.
pub record Delivery : Type 0 where
  pub message : List ℕ
  pub stalls : List Outcome
  pub last : Outcome
  pub replies : List Reply  -- what the core replied meanwhile

abbrev pub outcomes_of : Delivery → List Outcome
outcomes_of x = x.stalls ++ x.last ∷ []

-- the events of these outcomes, with a Retry after each
abbrev pub retried : List Outcome → List Event
retried outcomes = flat_map (λ o. event_of o ∷ Retry ∷ []) outcomes

-- the events of all calls, without a Retry after the last one
abbrev pub events_of : Delivery → List Event
events_of x = retried x.stalls ++ event_of x.last ∷ []

abbrev pub IsAnswered : Delivery → Type 0
IsAnswered x = is_stall x.last ≡ false

-- the message stalled at the first call and each time it was sent again
abbrev pub IsGivenUp : ℕ → Delivery → Type 0
IsGivenUp most x = (length x.stalls ≡ most) × (is_stall x.last ≡ true)

-- over a link with this relation of calls, where a message may be sent again at most `most` times
module _ (v : Scheme) {L : Type 0} (calls : L → List ℕ → Outcome → L → Type 0) (most : ℕ) where
  -- the link is called with the outstanding message, and the core gets the outcome of each call
  pub record IsSent (p : State × L) (x : Delivery) (q : State × L) : Type 0 where
    pub message : outstanding p.0 ≡ Some x.message
    pub stalls : All (λ o. is_stall o ≡ true) x.stalls
    pub few : length x.stalls ≤ most
    pub link : FoldsTo (λ l o m. calls l x.message o m) p.1 (outcomes_of x) q.1
    pub core : Runs v p.0 (events_of x) x.replies q.0

  -- The same, but memory ran out before the core could take the outcome of the last call, or after it did.
  pub record IsCutOff (p : State × L) (x : Delivery) (q : State × L) : Type 0 where
    pub message : outstanding p.0 ≡ Some x.message
    pub stalls : All (λ o. is_stall o ≡ true) x.stalls
    pub few : length x.stalls ≤ most
    pub link : FoldsTo (λ l o m. calls l x.message o m) p.1 (outcomes_of x) q.1
    pub core : Runs v p.0 (retried x.stalls) [] q.0 ⊎ Runs v p.0 (events_of x) x.replies q.0

  -- these messages, one after the other, each sent until it had its answer
  abbrev pub AllSent : State × L → List Delivery → State × L → Type 0
  AllSent p xs q = FoldsTo {P = State × L} (λ a x b. IsSent a x b × IsAnswered x) p xs q

-- how often the message after these may be sent again: the first message of all `first` times, each later one `most`
-- times
abbrev pub retries_after : ℕ → ℕ → List Delivery → ℕ
retries_after first most [] = first
retries_after first most (x ∷ xs) = most

module _ (v : Scheme) {L : Type 0} (calls : L → List ℕ → Outcome → L → Type 0) (first most : ℕ) where
  -- these messages, one after the other, each sent until it had its answer; the first may be sent again `first` times
  abbrev pub AllSentFrom : State × L → List Delivery → State × L → Type 0
  AllSentFrom p [] q = p ≡ q
  AllSentFrom p (x ∷ xs) q = (mid : State × L) × IsSent v calls first p x mid × IsAnswered x × AllSent v calls most mid xs q
