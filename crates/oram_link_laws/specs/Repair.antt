-- A list of STOREs that is sent again, after the host received any of them: in any order, any number of times, each of
-- them carried out, lost on the way, or refused because memory ran out. A second crash, while the list is sent again,
-- leaves such a host: it has received a beginning of the list, and then another beginning.
use Rattle.std.specs.Prelude.{◌≡◌, ◌⊎◌, ℕ, Bool, List, [], ◌∷◌}
use Rattle.std.specs.List.{AllByRecursion, FoldsTo}
use Rattle.oram_host.specs.Host.{Host}
use Rattle.oram_semantics.specs.Scheme.{Scheme}
use Rattle.oram_host_laws.specs.Honest.{HeardOrNot}
use Rattle.oram_link_laws.specs.ResentStores.{AreStores, IsSameHost, TakesEach}
use Rattle.oram_link_laws.specs.Runs.{Exchange, HeardRun, bodies_of}

-- the body is one of the bodies
abbrev pub IsAmong : List ℕ → List (List ℕ) → Type 0
IsAmong body [] = ⊥
IsAmong body (first ∷ bodies) = (body ≡ first) ⊎ IsAmong body bodies

-- each body that was received is one of the bodies
abbrev pub AreAmong : List (List ℕ) → List (List ℕ) → Type 0
AreAmong heard bodies = AllByRecursion (λ body. IsAmong body bodies) heard

-- the host received each body, in this order, and answered it somehow, or the body was lost
abbrev pub HearsEach : Host → List (List ℕ) → Host → Type 0
HearsEach host bodies after = FoldsTo {P = Host} (λ h body g. HeardOrNot body h g) host bodies after

-- A host that carries out all of the STOREs once becomes `once`. Another run of that host first received some of them in
-- any way, which left `part`, and then carried out all of them, in order, which left `again`. Both have the same records.
abbrev pub ResentStoresMend : Type 0
ResentStoresMend = (host once part again : Host) (bodies heard : List (List ℕ)) → AreStores bodies → AreAmong heard bodies
    → TakesEach host bodies once → HearsEach host heard part → TakesEach part bodies again → IsSameHost once again

-- The same, if the host received them in exchanges of a link. The host beside these exchanges is honest, or receives
-- each message and may lie.
abbrev pub ResentStoresMendRuns : Type 0
ResentStoresMendRuns = (may_lie : Bool) (v : Scheme) (host once part again : Host) (bodies : List (List ℕ)) (exchanges : List Exchange) → AreStores bodies
    → AreAmong (bodies_of exchanges) bodies → TakesEach host bodies once → HeardRun may_lie v host exchanges part → TakesEach part bodies again
    → IsSameHost once again
