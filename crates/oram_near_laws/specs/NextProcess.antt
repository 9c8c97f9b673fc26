-- A process over a host of levels that begins with what the one before has kept.
use Rattle.std.specs.Prelude.{◌≡◌, ◌⊎◌, ℕ, Bool, List, [], map}
use Rattle.std.specs.List.{AllByRecursion}
use Rattle.oram_geometry.specs.Sizes.{IsDevice}
use Rattle.oram_geometry.specs.declared.Sizes.{Sizes}
use Rattle.oram_host.specs.Host.{Host}
use Rattle.oram_levels.specs.Messages.{LevelsMessage}
use Rattle.oram_semantics.specs.Scheme.{Scheme, record_len}
use Rattle.oram_link_laws.specs.Runs.{Exchange, bodies_of}
use Rattle.oram_rounds.specs.Process.{IsKept, IsSafe, Process, begun}
use Rattle.oram_near.specs.Law.{HaveSameRecords, IsBodyOf}
use Rattle.oram_near.specs.LevelsHost.{LevelsRun}
use Rattle.oram_near.specs.NearCalls.{FitsTogether, IsOneOf, NearValue, TakesUnsure, client_of, stores_among}
use Rattle.oram_near.specs.PathRequests.{IsOfDevice, PathRequest, far_of, path_body}
use Rattle.oram_near_laws.specs.BesideLevels.{CompletesSide, NearSide}

-- Each STORE that the host may not have carried out is the far part of one of these STOREs.
abbrev pub UnsureAreAmong : {B E : Type 0} → NearValue B E → List (List ℕ) → Type 0
UnsureAreAmong l stores = (requests : List PathRequest) → stores ≡ map path_body requests → AllByRecursion (IsOfDevice l.device l.near.record_len) requests
    → (message : LevelsMessage) → IsOneOf message l.unsure → IsOneOf message (stores_among (map (far_of l.device l.near.levels l.near.record_len) requests))

-- A process kept itself when its link and its host of levels were `p`: its core, the STOREs that may leave, among which are all that were unsure, and its
-- near records. Since then the host of levels has received FETCHes and some of these STOREs, in any order and any number of times. The next
-- process begins with what is read back: its link has the near records that were kept, and is given the STOREs. Then a host of whole paths
-- completes the host of levels for the new link, and over it the new process is safe.
abbrev pub NextOverLevelsIsSafe : (B : Type 0) {E K : Type 0} → (E → ℕ → ℕ → ℕ → List ℕ) → (E → Sizes) → (E → ℕ) → (K → List ℕ → Type 0) → Type 0
NextOverLevelsIsSafe B {E} {K} record_at device_of len_of reads_back =
    (may_lie : Bool) (v : Scheme) (p : NearSide B E) (whole : Host) (sent : List (List ℕ)) (bytes : List ℕ) (before array : ℕ → List ℕ) → CompletesSide record_at device_of len_of v p whole
    → (k : IsKept may_lie v sent bytes whole before array) → UnsureAreAmong p.0 k.stores
    → (l m : NearValue B E) → l.device ≡ v.device → l.near.record_len ≡ record_len v → FitsTogether device_of len_of l → l.unsure ≡ []
    → HaveSameRecords (client_of record_at p.0) (client_of record_at l) → TakesUnsure l k.stores m
    → (below : List Exchange) (after : Host) → AllByRecursion (IsBodyOf m.unsure) (bodies_of below) → LevelsRun v (record_at l.empty) may_lie p.1 below after
    → (keeper : K) → ((other : List ℕ) → reads_back keeper other → other ≡ bytes)
    → (later : Host) × CompletesSide record_at device_of len_of v (m, after) later
    × (let next : Process (NearSide B E) K = begun (m, after) v k.stores k.core keeper in
    IsSafe may_lie v reads_back next later before before ⊎ IsSafe may_lie v reads_back next later array array)
