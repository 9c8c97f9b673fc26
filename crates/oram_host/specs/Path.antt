-- The path from the root to a leaf, and the records along it.
use Rattle.std.specs.Prelude.{◌≡◌, ◌≢◌, ℕ, ◌+◌, ◌-◌, ◌*◌, ◌/◌, ◌^◌, ◌<◌, ◌≤◌, List, ◌++◌, length, slice_range, Some}
use Rattle.oram_wire.specs.declared.TheConstants.{LONGEST_BODY}
use Rattle.oram_host.specs.Host.{Kept, record_of}

-- the node at a level of a leaf's path, from level 0 at the root on; oram_geometry has the same function for the client,
-- and a host uses no crate of the client
unfoldable pub node_on : ℕ → ℕ → ℕ → ℕ
node_on depth leaf level = 2 ^ level - 1 + leaf / 2 ^ (depth - level)

-- the record of a level, in bytes that are records of `record_len` bytes each, root first
abbrev pub record_at : ℕ → List ℕ → ℕ → List ℕ
record_at record_len bytes level = slice_range bytes (level * record_len) ((level + 1) * record_len)

-- the bytes are the records of the path of a leaf, root first
pub record IsPath (kept : Kept) (leaf : ℕ) (bytes : List ℕ) : Type 0 where
  pub whole : length bytes ≡ (kept.depth + 1) * kept.record_len
  pub each : (level : ℕ) → level ≤ kept.depth
      → record_of kept (node_on kept.depth leaf level) ≡ Some
      (record_at kept.record_len bytes level)

-- each record of the path of a leaf was replaced, and no other
pub record StoresPath (old : Kept) (leaf : ℕ) (bytes : List ℕ) (new : Kept) : Type 0 where
  pub depth : new.depth ≡ old.depth
  pub record_len : new.record_len ≡ old.record_len
  pub leaf_in : leaf < 2 ^ old.depth
  pub path : IsPath new leaf bytes
  pub others : (node : ℕ) → ((level : ℕ) → level ≤ old.depth
      → node ≢ node_on old.depth leaf level) → record_of new node ≡ record_of old node

-- the record of one node was replaced, and no other
pub record PutsRecord (old : Kept) (node : ℕ) (bytes : List ℕ) (new : Kept) : Type 0 where
  pub depth : new.depth ≡ old.depth
  pub record_len : new.record_len ≡ old.record_len
  pub node_in : node < 2 ^ (old.depth + 1) - 1
  pub whole : length bytes ≡ old.record_len
  pub put : record_of new node ≡ Some bytes
  pub others : (other : ℕ) → other ≢ node → record_of new other ≡ record_of old other

-- records that fit in an answer: at least one byte, and fewer than a frame can hold
pub record FitsAnswer (bytes : List ℕ) : Type 0 where
  pub some : 0 < length bytes
  pub few : length bytes < LONGEST_BODY

-- the bytes are `front` and then bytes that P holds of
abbrev pub IsBehind : List ℕ → (List ℕ → Type 0) → List ℕ → Type 0
IsBehind front P bytes = (rest : List ℕ) × (bytes ≡ front ++ rest) × P rest
