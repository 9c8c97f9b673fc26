-- What a host answers to a request, and what it keeps afterwards.
use Rattle.std.specs.Prelude.{◌≡◌, ◌≢◌, ℕ, ◌^◌, ◌<◌, List, [], None, Some}
use Rattle.oram_wire.specs.declared.host_messages.HostAnswer.{HostAnswer}
use Rattle.oram_wire.specs.declared.host_messages.HostAnswer.TheVariants.{Done, Payload, Refused}
use Rattle.oram_wire.specs.declared.host_messages.HostRequest.{HostRequest}
use Rattle.oram_wire.specs.declared.host_messages.HostRequest.TheVariants.{Fetch, Put, Shape, Store}
use Rattle.oram_host.specs.declared.refusals.HostRefusal.{HostRefusal}
use Rattle.oram_host.specs.Host.{Host, IsShape, Kept, tree_at}
use Rattle.oram_host.specs.Path.{IsPath, PutsRecord, StoresPath}
use Rattle.oram_host.specs.Refusals.{Refuses, code_of}

-- the host keeps `kept` of the tree now, and of every other tree what it kept before
pub record Keeps (old : Host) (tree : ℕ) (kept : Kept) (new : Host) : Type 0 where
  pub here : tree_at new tree ≡ Some kept
  pub others : (other : ℕ) → other ≢ tree → tree_at new other ≡ tree_at old other

-- the records of the path of a leaf
pub record IsFetched (host : Host) (tree leaf : ℕ) (bytes : List ℕ) : Type 0 where
  pub kept : Kept
  pub shaped : tree_at host tree ≡ Some kept
  pub leaf_in : leaf < 2 ^ kept.depth
  pub path : IsPath kept leaf bytes

pub record IsStored (old : Host) (tree leaf : ℕ) (records : List ℕ) (new : Host) : Type 0 where
  pub kept : Kept
  pub stored : Kept
  pub shaped : tree_at old tree ≡ Some kept
  pub stores : StoresPath kept leaf records stored
  pub keeps : Keeps old tree stored new

pub record IsPut (old : Host) (tree node : ℕ) (bytes : List ℕ) (new : Host) : Type 0 where
  pub kept : Kept
  pub changed : Kept
  pub shaped : tree_at old tree ≡ Some kept
  pub puts : PutsRecord kept node bytes changed
  pub keeps : Keeps old tree changed new

-- the tree has a new shape, and no record yet
pub record IsShaped (old : Host) (tree depth record_len : ℕ) (new : Host) : Type 0 where
  pub shape : IsShape depth record_len
  pub free : tree_at old tree ≡ None
  pub keeps : Keeps old tree (record { depth = depth; record_len = record_len; records = [] }) new

-- the answer to a request, and what the host keeps after it
abbrev pub Answers : Host → HostRequest → HostAnswer → Host → Type 0
Answers old message (Refused code) new = (why : HostRefusal) × (code ≡ code_of why)
    × Refuses old message why × (new ≡ old)
Answers old (Fetch tree leaf) (Payload bytes) new = IsFetched old tree leaf bytes × (new ≡ old)
Answers old (Store tree leaf records) Done new = IsStored old tree leaf records new
Answers old (Put tree node bytes) Done new = IsPut old tree node bytes new
Answers old (Shape tree depth record_len) Done new = IsShaped old tree depth record_len new
Answers old message answer new = ⊥
