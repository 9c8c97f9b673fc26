-- What is ahead at the link of a process, and the FETCHes that its core asks for.
use Rattle.std.specs.Prelude.{◌≡◌, ◌⊎◌, ℕ, Bool, true, List, [], ◌++◌}
use Rattle.std.specs.List.{flat_map}
use Rattle.oram_geometry.specs.declared.Sizes.{Sizes}
use Rattle.oram_geometry.specs.Sizes.{IsDevice}
use Rattle.oram_host.specs.Host.{Host}
use Rattle.oram_semantics.specs.InTurn.{AsksInTurn}
use Rattle.oram_semantics.specs.Run.{Shown}
use Rattle.oram_semantics.specs.Scheme.{Scheme, record_len}
use Rattle.oram_semantics.specs.State.{State}
use Rattle.oram_core.specs.Core.{IsSound}
use Rattle.oram_session.specs.Honesty.{HasFailed}
use Rattle.oram_session.specs.Outcome.{Outcome}
use Rattle.oram_link_laws.specs.Runs.{Exchange, bodies_of}
use Rattle.oram_rounds.specs.Batches.{BatchOutcome}
use Rattle.oram_rounds.specs.CatchUp.{PlainRun}
use Rattle.oram_rounds.specs.Law.{AreBatches}
use Rattle.oram_rounds.specs.Process.{Act, DoesAll, IsGoingOn, Process, Talks, exchanges_of, next_bodies}
use Rattle.oram_rounds.specs.Process.Act.{Calls}
use Rattle.oram_rounds.specs.Rounds.{Round}

-- The core asks for its next FETCHes in turn. What is ahead are some of their list that follow one another there: all of them, those after the
-- first few, those before the last few, or none.
pub record IsAheadInTurn {B : Type 0} (d : Sizes) (core : State) (l : Round B) : Type 0 where
  pub asks : AsksInTurn d core
  pub before : List (List ℕ)
  pub behind : List (List ℕ)
  pub next : next_bodies d core ≡ before ++ (bodies_of l.ahead ++ behind)

-- That holds of every core while nothing is ahead, even of one that was read back.
abbrev pub NothingAheadIsInTurn : Type 0 → Type 0
NothingAheadIsInTurn B = (d : Sizes) (overhead : ℕ) (core : State) (l : Round B) → IsSound d overhead core → l.ahead ≡ [] → IsAheadInTurn d core l

-- Whatever a process does, over a host that is honest or may lie, that stays so, unless the device fails. So no FETCH is ahead
-- that the core won't ask for.
abbrev pub AheadStaysInTurn : {B K : Type 0} → (B → List (List ℕ) → BatchOutcome → List Exchange → B → Type 0) → (K → List ℕ → Type 0) → Type 0
AheadStaysInTurn {B} {K} batches reads_back = AreBatches batches
    → (may_lie : Bool) (v : Scheme) (acts : List Act) (p q : Process B K) (host after : Host) (array : ℕ → List ℕ) → IsDevice v.device
    → p.link.device ≡ v.device → p.link.record_len ≡ record_len v → IsGoingOn may_lie v p host array → IsAheadInTurn v.device p.core p.link
    → DoesAll v batches reads_back p acts q → PlainRun may_lie v host (flat_map exchanges_of acts) after
    → IsAheadInTurn v.device q.core q.link ⊎ ((may_lie ≡ true) × HasFailed q.core)

-- All of the core's next FETCHes are ahead, and the first one is outstanding. Then the call with it sends nothing to the host.
abbrev pub AheadIsNotSent : {B : Type 0} → (B → List (List ℕ) → BatchOutcome → List Exchange → B → Type 0) → Type 0
AheadIsNotSent {B} batches = (v : Scheme) (s t : State) (l m : Round B) (o : Outcome) (exchanges : List Exchange) (x : Shown) → AsksInTurn v.device s
    → s.entry_number ≡ 0 → next_bodies v.device s ≡ bodies_of l.ahead → Talks v batches (s, l) (Calls o exchanges x) (t, m) → exchanges ≡ []
