-- A host that also answers the messages about some levels of a path.
use Rattle.std.specs.Prelude.{◌≡◌, ◌≢◌, ◌⊎◌, ℕ, ◌+◌, ◌-◌, ◌*◌, ◌^◌, ◌<◌, ◌≤◌, Bool, true, false, List, length, MatchOption, Some, None, Ok, Err, drop, slice_index, unwrap_or}
use Rattle.std.specs.List.{FoldsTo}
use Rattle.sha2.specs.Sha256.{sha256}
use Rattle.oram_geometry.specs.Sizes.{depth_of}
use Rattle.oram_levels.specs.Messages.{FetchLevels, HasNumbers, IsMisfit, LevelsMessage, StoreLevels, fetch_levels_body, levels_body, levels_payload, names_levels}
use Rattle.oram_wire.specs.HostBodies.{IsAnswer}
use Rattle.oram_wire.specs.HostMessages.{answer_body}
use Rattle.oram_wire.specs.declared.host_messages.HostAnswer.{HostAnswer}
use Rattle.oram_wire.specs.declared.host_messages.HostAnswer.TheVariants.{Done, Payload, Refused}
use Rattle.oram_host.specs.declared.refusals.HostRefusal.{HostRefusal}
use Rattle.oram_host.specs.declared.refusals.HostRefusal.TheVariants.{NoShape, BadLeaf, BadNode, BadLength, OutOfMemory}
use Rattle.oram_host.specs.Answers.{Keeps}
use Rattle.oram_host.specs.Host.{Host, Kept, record_of, tree_at}
use Rattle.oram_host.specs.Path.{node_on, record_at}
use Rattle.oram_host.specs.Refusals.{code_of}
use Rattle.oram_host.specs.Service.{Serves}
use Rattle.oram_host.specs.Swaps.{stored_at}
use Rattle.oram_semantics.specs.Scheme.{Scheme, record_len}
use Rattle.oram_session.specs.Outcome.{Outcome}
use Rattle.oram_link_laws.specs.Runs.{Exchange}
use Rattle.oram_near.specs.Completion.{far_level, gives_records}

-- why a tree that has a shape refuses a FETCH of levels: if there are several reasons, the one that is checked first
abbrev pub RefusesFetchLevels : Kept → ℕ → ℕ → ℕ → HostRefusal → Type 0
RefusesFetchLevels kept first last leaf BadLeaf = 2 ^ kept.depth ≤ leaf
RefusesFetchLevels kept first last leaf BadNode = (leaf < 2 ^ kept.depth) × (kept.depth < last)
RefusesFetchLevels kept first last leaf BadLength = (leaf < 2 ^ kept.depth) × (last ≤ kept.depth) × (last < first)
RefusesFetchLevels kept first last leaf OutOfMemory = (leaf < 2 ^ kept.depth) × (last ≤ kept.depth) × (first ≤ last)
RefusesFetchLevels kept first last leaf _ = ⊥

-- why it refuses a STORE of levels
abbrev pub RefusesStoreLevels : Kept → ℕ → ℕ → List ℕ → HostRefusal → Type 0
RefusesStoreLevels kept first leaf records BadLeaf = 2 ^ kept.depth ≤ leaf
RefusesStoreLevels kept first leaf records BadNode = (leaf < 2 ^ kept.depth) × (kept.depth < first)
RefusesStoreLevels kept first leaf records BadLength = (leaf < 2 ^ kept.depth) × (first ≤ kept.depth) × (length records ≢ (kept.depth + 1 - first) * kept.record_len)
RefusesStoreLevels kept first leaf records OutOfMemory = (leaf < 2 ^ kept.depth) × (first ≤ kept.depth) × (length records ≡ (kept.depth + 1 - first) * kept.record_len)
RefusesStoreLevels kept first leaf records _ = ⊥

abbrev pub RefusesLevels : Host → LevelsMessage → HostRefusal → Type 0
RefusesLevels host (FetchLevels tree first last leaf) why = MatchOption (tree_at host tree) (why ≡ NoShape) (λ kept. RefusesFetchLevels kept first last leaf why)
RefusesLevels host (StoreLevels tree first leaf records) why = MatchOption (tree_at host tree) (why ≡ NoShape) (λ kept. RefusesStoreLevels kept first leaf records why)

-- The payload of an answer has the records of a path from level `first` to level `last`, up to the first level whose node has none.
pub record AreLevelsFetched (host : Host) (tree first last leaf : ℕ) (payload : List ℕ) : Type 0 where
  pub kept : Kept
  pub shaped : tree_at host tree ≡ Some kept
  pub leaf_in : leaf < 2 ^ kept.depth
  pub last_in : last ≤ kept.depth
  pub first_in : first ≤ last
  pub count : ℕ
  pub bytes : List ℕ
  pub is : payload ≡ levels_payload count bytes
  pub within : first + count ≤ last + 1
  pub long : length bytes ≡ count * kept.record_len
  pub each : (i : ℕ) → i < count → record_of kept (node_on kept.depth leaf (first + i)) ≡ Some (record_at kept.record_len bytes i)
  pub ends : first + count ≤ last → record_of kept (node_on kept.depth leaf (first + count)) ≡ None

-- each record of the path of a leaf from level `first` on was replaced, and no other
pub record StoresLevels (old : Kept) (first leaf : ℕ) (bytes : List ℕ) (new : Kept) : Type 0 where
  pub depth : new.depth ≡ old.depth
  pub record_len : new.record_len ≡ old.record_len
  pub leaf_in : leaf < 2 ^ old.depth
  pub first_in : first ≤ old.depth
  pub whole : length bytes ≡ (old.depth + 1 - first) * old.record_len
  pub each : (level : ℕ) → first ≤ level → level ≤ old.depth → record_of new (node_on old.depth leaf level) ≡ Some (record_at old.record_len bytes (level - first))
  pub others : (node : ℕ) → ((level : ℕ) → first ≤ level → level ≤ old.depth → node ≢ node_on old.depth leaf level) → record_of new node ≡ record_of old node

pub record AreLevelsStored (old : Host) (tree first leaf : ℕ) (records : List ℕ) (new : Host) : Type 0 where
  pub kept : Kept
  pub stored : Kept
  pub shaped : tree_at old tree ≡ Some kept
  pub stores : StoresLevels kept first leaf records stored
  pub keeps : Keeps old tree stored new

-- the answer to a message about levels, and what the host keeps after it
abbrev pub AnswersLevels : Host → LevelsMessage → HostAnswer → Host → Type 0
AnswersLevels old message (Refused code) new = (why : HostRefusal) × (code ≡ code_of why) × RefusesLevels old message why × (new ≡ old)
AnswersLevels old (FetchLevels tree first last leaf) (Payload bytes) new = AreLevelsFetched old tree first last leaf bytes × (new ≡ old)
AnswersLevels old (StoreLevels tree first leaf records) Done new = AreLevelsStored old tree first leaf records new
AnswersLevels old message answer new = ⊥

-- The host is sent a body, gives this answer, and is `after` afterwards: a message about levels is answered as above, and any other body
-- as a bucket host does it.
pub record ServesLevels (host : Host) (body : List ℕ) (answer : HostAnswer) (after : Host) : Type 0 where
  pub levels : (message : LevelsMessage) → HasNumbers message → body ≡ levels_body message → AnswersLevels host message answer after
  pub misfit : IsMisfit body → (answer ≡ Refused 4) × (after ≡ host)
  pub other : names_levels body ≡ false → Serves host body answer after

-- A call gives the host's answer; if the call has a fault, the host may have received the message or not.
abbrev pub IsHonestLevelsCall : Host → List ℕ → Outcome → Host → Type 0
IsHonestLevelsCall host body (Ok bytes) after = (answer : HostAnswer) × IsAnswer answer × (bytes ≡ answer_body answer) × ServesLevels host body answer after
IsHonestLevelsCall host body (Err fault) after = (after ≡ host) ⊎ ((answer : HostAnswer) × ServesLevels host body answer after)

-- for a device whose formatting makes these records, by tree, leaf and level
module _ (v : Scheme) (empty : ℕ → ℕ → ℕ → List ℕ) where
  -- The answer to a FETCH of levels shows a record at a level that isn't what the host keeps there, and has the same digest. Where an
  -- answer ends above a level, it shows the formatting's record; where the host has no record, it keeps the formatting's.
  pub record ShowsLevelTwin (host : Host) (body bytes : List ℕ) : Type 0 where
    pub tree : ℕ
    pub first : ℕ
    pub leaf : ℕ
    pub fetch : body ≡ fetch_levels_body tree first (depth_of v.device tree) leaf
    pub gives : gives_records (record_len v) (depth_of v.device tree + 1 - first) bytes ≡ true
    pub level : ℕ
    pub from : first ≤ level
    pub within : level ≤ depth_of v.device tree
    pub shown : List ℕ
    pub kept : List ℕ
    pub shows : shown ≡ unwrap_or (far_level (record_len v) first (slice_index bytes 1) (drop 2 bytes) level) (empty tree leaf level)
    pub keeps : kept ≡ unwrap_or (stored_at host tree (node_on (depth_of v.device tree) leaf level)) (empty tree leaf level)
    pub differs : shown ≢ kept
    pub digest : sha256 shown ≡ sha256 kept

  -- The message is answered with these bytes, whatever they are. An honest host receives it too, and has room for it.
  pub record IsLevelsLie (host : Host) (body bytes : List ℕ) (after : Host) : Type 0 where
    pub answer : HostAnswer
    pub heard : ServesLevels host body answer after
    pub room : answer ≢ Refused 8
    pub apart : ¬ ShowsLevelTwin host body bytes

  -- a call gives the honest host's answer, or a lie if the host may lie
  abbrev pub IsLevelsCall : Bool → Host → List ℕ → Outcome → Host → Type 0
  IsLevelsCall may_lie host body o after =
      IsHonestLevelsCall host body o after ⊎ ((may_lie ≡ true) × (bytes : List ℕ) × (o ≡ Ok bytes) × IsLevelsLie host body bytes after)

  -- such calls, one after the other
  abbrev pub LevelsRun : Bool → Host → List Exchange → Host → Type 0
  LevelsRun may_lie host exchanges after = FoldsTo {P = Host} {A = Exchange} (λ h e g. IsLevelsCall may_lie h e.0 e.1 g) host exchanges after
