-- A process whose link keeps near records, beside its host of levels.
use Rattle.std.specs.Prelude.{◌≡◌, ◌⊎◌, ℕ, Bool, List}
use Rattle.std.specs.List.{flat_map}
use Rattle.oram_geometry.specs.Sizes.{IsDevice}
use Rattle.oram_geometry.specs.declared.Sizes.{Sizes}
use Rattle.oram_host.specs.Host.{Host}
use Rattle.oram_semantics.specs.Scheme.{Scheme, record_len}
use Rattle.oram_link_laws.specs.Runs.{Exchange}
use Rattle.oram_rounds.specs.Batches.{BatchOutcome}
use Rattle.oram_rounds.specs.CatchUp.{PlainRun}
use Rattle.oram_rounds.specs.Law.{AreBatches}
use Rattle.oram_rounds.specs.Process.{Act, DoesAll, HaveFailed, HaveReplies, IsGoingOn, IsSafe, Process, earlier, exchanges_of, replies_of}
use Rattle.oram_near.specs.Law.{CompletesHost}
use Rattle.oram_near.specs.LevelsHost.{LevelsRun}
use Rattle.oram_near.specs.NearCalls.{FitsTogether, NearBatch, NearValue, client_of}

-- a link that keeps near records, and the host of levels at the other end of the link below
abbrev pub NearSide : Type 0 → Type 0 → Type 0
NearSide B E = NearValue B E × Host

-- A batch of the link, during which the host of levels goes through the exchanges of the link below, and is honest or may lie.
abbrev pub NearBeside : {B E : Type 0} → (B → List (List ℕ) → BatchOutcome → List Exchange → B → Type 0) → (E → ℕ → ℕ → ℕ → List ℕ) → Bool → Scheme
    → NearSide B E → List (List ℕ) → BatchOutcome → List Exchange → NearSide B E → Type 0
NearBeside batches record_at may_lie v p bodies o exchanges q =
    (below : List Exchange) × NearBatch batches record_at p.0 bodies o exchanges below q.0 × LevelsRun v (record_at p.0.empty) may_lie p.1 below q.1

-- The link is one for the device, and a host of whole paths completes the host of levels beside it.
pub record CompletesSide {B E : Type 0} (record_at : E → ℕ → ℕ → ℕ → List ℕ) (device_of : E → Sizes) (len_of : E → ℕ) (v : Scheme) (p : NearSide B E) (whole : Host) : Type 0 where
  pub device : p.0.device ≡ v.device
  pub long : p.0.near.record_len ≡ record_len v
  pub fits : FitsTogether device_of len_of p.0
  pub completes : CompletesHost v (client_of record_at p.0) p.1 whole

-- Whatever a process does, there is a host of whole paths that goes through its exchanges, honestly or not, and completes the host of
-- levels afterwards. Over that host the process is safe.
abbrev pub ActsOverLevelsAreSafe : {B E K : Type 0} → (B → List (List ℕ) → BatchOutcome → List Exchange → B → Type 0) → (E → ℕ → ℕ → ℕ → List ℕ) → (E → Sizes) → (E → ℕ) → (K → List ℕ → Type 0) → Type 0
ActsOverLevelsAreSafe {B} {E} {K} batches record_at device_of len_of reads_back = AreBatches batches
    → (may_lie : Bool) (v : Scheme) (acts : List Act) (p q : Process (NearSide B E) K) (whole : Host) (before array : ℕ → List ℕ) → IsDevice v.device
    → CompletesSide record_at device_of len_of v p.link.inner whole → IsSafe may_lie v reads_back p whole before array
    → DoesAll v (NearBeside batches record_at may_lie v) reads_back p acts q
    → (later : Host) × CompletesSide record_at device_of len_of v q.link.inner later × PlainRun may_lie v whole (flat_map exchanges_of acts) later
    × IsSafe may_lie v reads_back q later (earlier acts before array) array

-- And its replies are the array's, or the device fails.
abbrev pub RepliesOverLevelsAreTheArrays : {B E K : Type 0} → (B → List (List ℕ) → BatchOutcome → List Exchange → B → Type 0) → (E → ℕ → ℕ → ℕ → List ℕ) → (E → Sizes) → (E → ℕ) → (K → List ℕ → Type 0) → Type 0
RepliesOverLevelsAreTheArrays {B} {E} {K} batches record_at device_of len_of reads_back = AreBatches batches
    → (may_lie : Bool) (v : Scheme) (acts : List Act) (p q : Process (NearSide B E) K) (whole : Host) (array : ℕ → List ℕ) → IsDevice v.device
    → p.link.device ≡ v.device → p.link.record_len ≡ record_len v
    → CompletesSide record_at device_of len_of v p.link.inner whole → IsGoingOn may_lie v p whole array
    → DoesAll v (NearBeside batches record_at may_lie v) reads_back p acts q
    → (later : Host) × CompletesSide record_at device_of len_of v q.link.inner later
    × (HaveReplies may_lie v p array (flat_map replies_of acts) q later ⊎ HaveFailed may_lie v p array (flat_map replies_of acts) q)
