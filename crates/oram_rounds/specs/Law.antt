-- What a link that holds STOREs back is to a core: a link to the host as it will be once it has carried them out.
use Rattle.std.specs.Prelude.{◌≡◌, ◌⊎◌, ℕ, ◌<◌, Bool, List, [], length}
use Rattle.std.specs.List.{AllByRecursion}
use Rattle.oram_geometry.specs.Sizes.{depth_of, trees_of}
use Rattle.oram_host.specs.Host.{Host}
use Rattle.oram_semantics.specs.Scheme.{Scheme, record_len}
use Rattle.oram_tree.specs.Content.{node_count}
use Rattle.oram_host_laws.specs.Honest.{KeepsAll}
use Rattle.oram_session.specs.Honesty.{IsHeardCall}
use Rattle.oram_session.specs.Outcome.{Outcome}
use Rattle.oram_link_laws.specs.Runs.{Exchange}
use Rattle.oram_rounds.specs.Batches.{BatchOutcome, IsBatch, SendsNothing}
use Rattle.oram_rounds.specs.CatchUp.{CatchesUp, IsPlainCall, PlainRun}
use Rattle.oram_rounds.specs.PathMessages.{IsPathFetch}
use Rattle.oram_rounds.specs.Rounds.{Round, RoundCall, WentAhead, waiting}

-- each batch has exchanges such as `IsBatch` allows
abbrev pub AreBatches : {B : Type 0} → (B → List (List ℕ) → BatchOutcome → List Exchange → B → Type 0) → Type 0
AreBatches {B} batches = (l m : B) (bodies : List (List ℕ)) (o : BatchOutcome) (exchanges : List Exchange) → batches l bodies o exchanges m → IsBatch bodies o exchanges

-- a link sends nothing when it learns that its process was kept, with some check
abbrev pub LearningSendsNothing : {B : Type 0} → (B → List (List ℕ) → BatchOutcome → List Exchange → B → Type 0) → (B → ℕ → B → Type 0) → Type 0
LearningSendsNothing {B} batches learns = (l m : B) (check : ℕ) → learns l check m → SendsNothing batches l m

-- the host keeps a record of the right length at each node of the device's trees
abbrev pub IsStocked : Scheme → Host → Type 0
IsStocked v host = (records : ℕ → ℕ → List ℕ) × KeepsAll v records host
    × ((i n : ℕ) → i < trees_of v.device → n < node_count (depth_of v.device i) → length (records i n) ≡ record_len v)

-- the host gives this answer to this FETCH now, or tells a lie about it, if it may lie
abbrev pub IsFetchNow : Bool → Scheme → Host → Exchange → Type 0
IsFetchNow may_lie v host e = IsPathFetch v.device e.0 × ((after : Host) × IsPlainCall may_lie v host e.0 e.1 after)

-- Each FETCH that is ahead has the answer that the host gives once it has carried out the STOREs that are kept.
abbrev pub AreAhead : Bool → Scheme → Host → {B : Type 0} → Round B → Type 0
AreAhead may_lie v host l = (l.ahead ≡ []) ⊎ ((reached : Host) × CatchesUp v host l.kept reached × AllByRecursion (IsFetchNow may_lie v reached) l.ahead)

-- A host goes through the exchanges of a call, and is honest or may lie. It catches up by the STOREs that wait, and gives the
-- answers to the FETCHes that went ahead. Then the call is one of the host as it will be: that host gives the answer, or tells
-- the lie. Afterwards the host beside the link catches up again, and gives the answers that are still ahead.
abbrev pub CallsAreOfTheHostLater : {B : Type 0} → (B → List (List ℕ) → BatchOutcome → List Exchange → B → Type 0) → Type 0
CallsAreOfTheHostLater {B} batches = AreBatches batches
    → (may_lie : Bool) (v : Scheme) (l m : Round B) (body : List ℕ) (o : Outcome) (exchanges : List Exchange) (host after later : Host)
    → l.device ≡ v.device → l.record_len ≡ record_len v → CatchesUp v host (waiting l) later → AreAhead may_lie v host l → (IsPathFetch v.device body → IsStocked v later)
    → RoundCall batches l body o exchanges m → PlainRun may_lie v host exchanges after
    → (next : Host) × CatchesUp v after (waiting m) next × IsHeardCall may_lie v later body o next × AreAhead may_lie v after m

-- FETCHes are sent ahead, and the STOREs that are kept behind them. Then the host beside the link catches up to what it would have
-- caught up to before, and it gives the answers that are ahead now once it has carried out the STOREs that are laid over them.
abbrev pub AheadIsOfTheHost : {B : Type 0} → (B → List (List ℕ) → BatchOutcome → List Exchange → B → Type 0) → Type 0
AheadIsOfTheHost {B} batches = AreBatches batches
    → (may_lie : Bool) (v : Scheme) (l m : Round B) (fetches : List (List ℕ)) (exchanges : List Exchange) (host after later : Host)
    → l.device ≡ v.device → l.record_len ≡ record_len v → CatchesUp v host (waiting l) later → WentAhead batches l fetches exchanges m
    → PlainRun may_lie v host exchanges after
    → CatchesUp v after (waiting m) later × AreAhead may_lie v after m
