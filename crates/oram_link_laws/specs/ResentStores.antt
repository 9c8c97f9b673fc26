-- A list of STOREs that is sent again, after the host carried out a beginning of that list.
use Rattle.std.specs.Prelude.{◌≡◌, ◌⊎◌, ℕ, ◌<◌, ◌^◌, List, ◌∷◌, ◌++◌}
use Rattle.std.specs.List.{AllByRecursion, FoldsTo}
use Rattle.oram_wire.specs.HostMessages.{store_body}
use Rattle.oram_wire.specs.declared.host_messages.HostAnswer.{HostAnswer}
use Rattle.oram_wire.specs.declared.host_messages.HostAnswer.TheVariants.{Done, Refused}
use Rattle.oram_host.specs.Host.{Host, IsHost}
use Rattle.oram_host.specs.Service.{Serves}
use Rattle.oram_host.specs.Swaps.{shape_at, stored_at}
use Rattle.oram_host_laws.specs.Honest.{Takes}
use Rattle.oram_link_laws.specs.Runs.{HostRun, acknowledged}

-- the body is that of a STORE, with these parts
pub record IsStore (body : List ℕ) : Type 0 where
  pub tree : ℕ
  pub leaf : ℕ
  pub records : List ℕ
  pub fits : leaf < 2 ^ 32
  pub named : body ≡ store_body tree leaf records

abbrev pub AreStores : List (List ℕ) → Type 0
AreStores bodies = AllByRecursion IsStore bodies

-- the host carried out one body after the other, and then is `after`
abbrev pub TakesEach : Host → List (List ℕ) → Host → Type 0
TakesEach host bodies after = FoldsTo {P = Host} Takes host bodies after

-- Two hosts have the same trees, with the same shapes, and the same record at each node. Their entries may be in
-- different orders.
pub record IsSameHost (a b : Host) : Type 0 where
  pub shapes : (tree : ℕ) → shape_at a tree ≡ shape_at b tree
  pub records : (tree node : ℕ) → stored_at a tree node ≡ stored_at b tree node

-- A host that carries out all of the STOREs once becomes `once`. Another run of that host carried out a beginning of
-- them, which left `part`, and then all of them, which left `again`. Both have the same records.
abbrev pub ResentStoresLeaveTheSame : Type 0
ResentStoresLeaveTheSame = (host once part again : Host) (begun rest : List (List ℕ)) → AreStores (begun ++ rest)
    → TakesEach host (begun ++ rest) once → TakesEach host begun part → TakesEach part (begun ++ rest) again → IsSameHost once again

-- If both are hosts as a server keeps them, with their entries by rising number, they are equal.
abbrev pub ResentStoresLeaveOneHost : Type 0
ResentStoresLeaveOneHost = (host once part again : Host) (begun rest : List (List ℕ)) → AreStores (begun ++ rest) → IsHost once → IsHost again
    → TakesEach host (begun ++ rest) once → TakesEach host begun part → TakesEach part (begun ++ rest) again → once ≡ again

-- The host answers each STORE that is sent again with the answer that it was carried out, or with the refusal that memory
-- ran out (code 8).
abbrev pub ResentStoresAreTaken : Type 0
ResentStoresAreTaken = (host once part now after : Host) (begun rest sent later : List (List ℕ)) (body : List ℕ) (answer : HostAnswer)
    → AreStores (begun ++ rest) → TakesEach host (begun ++ rest) once → TakesEach host begun part
    → begun ++ rest ≡ sent ++ body ∷ later → TakesEach part sent now → Serves now body answer after
    → (answer ≡ Done) ⊎ (answer ≡ Refused 8)

-- All of them can be carried out again: there is a host after that.
abbrev pub ResentStoresGoThrough : Type 0
ResentStoresGoThrough = (host once part : Host) (begun rest : List (List ℕ)) → AreStores (begun ++ rest)
    → TakesEach host (begun ++ rest) once → TakesEach host begun part → (again : Host) × TakesEach part (begun ++ rest) again

-- The first law, for a host that goes through exchanges in which each STORE was acknowledged.
abbrev pub ResentExchangesLeaveTheSame : Type 0
ResentExchangesLeaveTheSame = (host once part again : Host) (begun rest : List (List ℕ)) → AreStores (begun ++ rest)
    → HostRun host (acknowledged (begun ++ rest)) once → HostRun host (acknowledged begun) part → HostRun part (acknowledged (begun ++ rest)) again
    → IsSameHost once again
