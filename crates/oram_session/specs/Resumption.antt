-- How a core goes on that was kept while a message was outstanding.
use Rattle.std.specs.Prelude.{◌≡◌, ℕ, List, [], ◌∷◌, ◌⊎◌}
use Rattle.oram_semantics.specs.Scheme.{Scheme}
use Rattle.oram_semantics.specs.State.{State}
use Rattle.oram_semantics.specs.declared.events.Event.TheVariants.{Reopen, Retry}
use Rattle.oram_session.specs.Exchanges.{Delivery, Runs, IsSent, IsCutOff, IsGivenUp, AllSentFrom, retries_after}
use Rattle.oram_session.specs.Outcome.{Outcome}
use Rattle.oram_session.specs.Turns.{most_retries}

-- how often the outstanding message may be sent again after its first retry, since it has stalled once already
abbrev pub first_retries : ℕ
first_retries = 2

-- how often the message after these may be sent again
abbrev pub retries_now : List Delivery → ℕ
retries_now xs = retries_after first_retries most_retries xs

-- over a link with this relation of calls
module _ (v : Scheme) {L : Type 0} (calls : L → List ℕ → Outcome → L → Type 0) where
  -- The core learns that it was reopened and sends its message again; this message and those after it get their answers.
  pub record HasGoneOn (p : State × L) (xs : List Delivery) (q : State × L) : Type 0 where
    pub reopened : State
    pub resumes : Runs v p.0 (Reopen ∷ Retry ∷ []) [] reopened
    pub sent : AllSentFrom v calls first_retries most_retries (reopened, p.1) xs q

  -- The core went on until one message stalled the fourth time.
  pub record HasStalled (p q : State × L) : Type 0 where
    pub sendings : List Delivery
    pub mid : State × L
    pub went : HasGoneOn p sendings mid
    pub last : Delivery
    pub tried : IsSent v calls (retries_now sendings) mid last q
    pub stuck : IsGivenUp (retries_now sendings) last

  -- The core went on until memory ran out at a message.
  pub record HasRunOut (p q : State × L) : Type 0 where
    pub sendings : List Delivery
    pub mid : State × L
    pub went : HasGoneOn p sendings mid
    pub last : Delivery
    pub cut : IsCutOff v calls (retries_now sendings) mid last q

  -- Memory ran out before anything was sent, when the core knew only of the reopening; or later.
  abbrev pub IsCutShort : State × L → State × L → Type 0
  IsCutShort p q = (Runs v p.0 (Reopen ∷ []) [] q.0 × (q.1 ≡ p.1)) ⊎ HasRunOut p q
