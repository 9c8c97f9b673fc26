-- What a link with near records is to the link above it: a link to a host of whole paths.
use Rattle.std.specs.Prelude.{◌≡◌, ℕ, ◌+◌, ◌^◌, ◌<◌, ◌≤◌, Bool, List, [], length, Some, None}
use Rattle.std.specs.List.{AllByRecursion}
use Rattle.oram_geometry.specs.Path.{node_on}
use Rattle.oram_geometry.specs.Sizes.{depth_of, trees_of}
use Rattle.oram_geometry.specs.declared.Sizes.{Sizes}
use Rattle.oram_host.specs.Host.{Host, Kept, tree_at}
use Rattle.oram_host.specs.Path.{node_on as host_node}
use Rattle.oram_host.specs.Swaps.{stored_at}
use Rattle.oram_semantics.specs.Scheme.{Scheme, record_len}
use Rattle.oram_host_laws.specs.Honest.{KeepsAll}
use Rattle.oram_levels.specs.Messages.{HasNumbers, FetchLevels, LevelsMessage, StoreLevels, levels_body}
use Rattle.oram_session.specs.declared.link.LinkFault.TheVariants.{Closed}
use Rattle.oram_link_laws.specs.Runs.{Exchange, bodies_of}
use Rattle.oram_rounds.specs.Batches.{BatchOutcome}
use Rattle.oram_rounds.specs.CatchUp.{PlainRun}
use Rattle.oram_rounds.specs.Law.{AreBatches}
use Rattle.oram_near.specs.Completion.{ClientRecords, whole_record}
use Rattle.oram_near.specs.LevelsHost.{LevelsRun}
use Rattle.oram_near.specs.NearCalls.{FitsTogether, IsOneOf, NearBatch, NearValue, TakesUnsure, client_of, store_tries}
use Rattle.oram_near.specs.PathRequests.{first_far}

-- the host keeps a tree of this shape
pub record HasShape (host : Host) (tree depth len : ℕ) : Type 0 where
  pub kept : Kept
  pub there : tree_at host tree ≡ Some kept
  pub is_depth : kept.depth ≡ depth
  pub is_len : kept.record_len ≡ len

-- The host of levels has the device's trees. If it has no record at a far level of a path, it has none below it.
pub record HasFarLevels (v : Scheme) (levels : ℕ) (far : Host) : Type 0 where
  pub shapes : (tree : ℕ) → tree < trees_of v.device → HasShape far tree (depth_of v.device tree) (record_len v)
  pub no_gap : (tree leaf level : ℕ) → tree < trees_of v.device → leaf < 2 ^ depth_of v.device tree → first_far levels tree ≤ level → level < depth_of v.device tree
      → stored_at far tree (host_node (depth_of v.device tree) leaf level) ≡ None → stored_at far tree (host_node (depth_of v.device tree) leaf (level + 1)) ≡ None

-- These are the records of the whole paths, by tree and node: at each node of the device's trees the near record, where there is one.
-- Otherwise it is what the host of levels has once it has carried out the unsure STOREs, and the formatting's record if that is none.
pub record AreWhole (v : Scheme) (c : ClientRecords) (far : Host) (records : ℕ → ℕ → List ℕ) : Type 0 where
  pub has : HasFarLevels v c.near.levels far
  pub long : (tree leaf level : ℕ) → tree < trees_of v.device → leaf < 2 ^ depth_of v.device tree → level ≤ depth_of v.device tree
      → length (records tree (node_on (depth_of v.device tree) leaf level)) ≡ record_len v
  pub each : (tree leaf level : ℕ) → tree < trees_of v.device → leaf < 2 ^ depth_of v.device tree → level ≤ depth_of v.device tree
      → records tree (node_on (depth_of v.device tree) leaf level) ≡ whole_record c tree leaf level (stored_at far tree (host_node (depth_of v.device tree) leaf level))

-- A host of whole paths completes a host of levels: it keeps these records.
pub record CompletesHost (v : Scheme) (c : ClientRecords) (far whole : Host) : Type 0 where
  pub records : ℕ → ℕ → List ℕ
  pub are : AreWhole v c far records
  pub keeps : KeepsAll v records whole

-- A host of whole paths completes the host of levels below the link. That host goes through the exchanges of the link below, and is honest
-- or may lie. Then the host of whole paths goes through the exchanges of the batch, honestly if the other did, and completes the host of
-- levels afterwards.
abbrev pub CompletesPaths : {B E : Type 0} → (B → List (List ℕ) → BatchOutcome → List Exchange → B → Type 0) → (E → ℕ → ℕ → ℕ → List ℕ) → (E → Sizes) → (E → ℕ) → Type 0
CompletesPaths {B} {E} batches record_at device_of len_of = AreBatches batches
    → (may_lie : Bool) (v : Scheme) (l m : NearValue B E) (bodies : List (List ℕ)) (o : BatchOutcome) (exchanges below : List Exchange) (far after whole : Host)
    → l.device ≡ v.device → l.near.record_len ≡ record_len v → FitsTogether device_of len_of l → CompletesHost v (client_of record_at l) far whole
    → NearBatch batches record_at l bodies o exchanges below m → LevelsRun v (record_at l.empty) may_lie far below after
    → (later : Host) × PlainRun may_lie v whole exchanges later × CompletesHost v (client_of record_at m) after later × FitsTogether device_of len_of m

-- Two clients of a device have the same near records and the same records of the formatting, whatever is noted or unsure.
pub record HaveSameRecords (c d : ClientRecords) : Type 0 where
  pub device : d.device ≡ c.device
  pub levels : d.near.levels ≡ c.near.levels
  pub record_len : d.near.record_len ≡ c.near.record_len
  pub bytes : d.near.bytes ≡ c.near.bytes
  pub empty : d.empty ≡ c.empty

-- the message is a FETCH of levels, or one of these STOREs
abbrev pub IsFetchOrOneOf : List LevelsMessage → LevelsMessage → Type 0
IsFetchOrOneOf stores (FetchLevels tree first last leaf) = HasNumbers (FetchLevels tree first last leaf)
IsFetchOrOneOf stores (StoreLevels tree first leaf records) = IsOneOf (StoreLevels tree first leaf records) stores

abbrev pub IsBodyOf : List LevelsMessage → List ℕ → Type 0
IsBodyOf stores body = (message : LevelsMessage) × IsFetchOrOneOf stores message × (body ≡ levels_body message)

-- A process kept its near records when `c` was what the client had, and some host of whole paths completed the host of levels then. The
-- STOREs that were unsure then were kept, too, and since then the host of levels has received FETCHes and kept STOREs: any of them, in any
-- order, and any number of times. The next process begins with a link to which these STOREs are given. Once the host of whole paths has
-- received them without an answer, it completes the host of levels as it is now.
abbrev pub ResumesPaths : (B : Type 0) {E : Type 0} → (E → ℕ → ℕ → ℕ → List ℕ) → (E → Sizes) → (E → ℕ) → Type 0
ResumesPaths B {E} record_at device_of len_of =
    (may_lie : Bool) (v : Scheme) (c : ClientRecords) (l m : NearValue B E) (bodies : List (List ℕ)) (below : List Exchange) (far after whole : Host)
    → l.device ≡ v.device → l.near.record_len ≡ record_len v → FitsTogether device_of len_of l → l.unsure ≡ []
    → HaveSameRecords c (client_of record_at l) → CompletesHost v c far whole
    → (takes : TakesUnsure l bodies m) → ((message : LevelsMessage) → IsOneOf message c.unsure → IsOneOf message m.unsure)
    → AllByRecursion (IsBodyOf m.unsure) (bodies_of below) → LevelsRun v (record_at l.empty) may_lie far below after
    → (later : Host) × PlainRun may_lie v whole (store_tries Closed takes.requests) later × CompletesHost v (client_of record_at m) after later × FitsTogether device_of len_of m
