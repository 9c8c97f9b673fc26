use Rattle.std.specs.Prelude.{◌≡◌, ◌≢◌, ℕ, ◌+◌, ◌-◌, ◌*◌, ◌^◌, ◌<◌, ◌≤◌, List, length}
use Rattle.sha2.specs.Sha256.{sha256}
use Rattle.oram_geometry.specs.Path.{IsOffPath}
use Rattle.oram_hash.specs.Record.{HoldsDigests, no_digest}
use Rattle.oram_hash.specs.Path.{Path, record_at, node_at}

-- these records, by node, form a tree of this depth under this root digest
pub record IsStored (depth record_len : ℕ) (root : List ℕ) (records : ℕ → List ℕ) : Type 0 where
  pub lengths : (n : ℕ) → n < 2 ^ (depth + 1) - 1 → length (records n) ≡ record_len
  pub top : sha256 (records 0) ≡ root
  pub inner : (n : ℕ) → n < 2 ^ depth - 1 → HoldsDigests (records n) (sha256 (records (2 * n + 1))) (sha256 (records (2 * n + 2)))
  pub leaves : (n : ℕ) → 2 ^ depth - 1 ≤ n → n < 2 ^ (depth + 1) - 1 → HoldsDigests (records n) no_digest no_digest

-- each record of the path is the tree's record of that node
abbrev pub IsPathOf : (ℕ → List ℕ) → Path → Type 0
IsPathOf records p = (level : ℕ) → level ≤ p.depth → record_at p level ≡ records (node_at p level)

-- the new tree has the records of q on the path p, and the old tree's records everywhere else
pub record IsReplaced (p q : Path) (old new : ℕ → List ℕ) : Type 0 where
  pub on_path : (level : ℕ) → level ≤ p.depth → new (node_at p level) ≡ record_at q level
  pub off_path : (n : ℕ) → IsOffPath p.depth p.leaf n → new n ≡ old n

-- this is the first level at which the path's record isn't the tree's
pub record IsFirstOther (records : ℕ → List ℕ) (p : Path) (level : ℕ) : Type 0 where
  pub within : level ≤ p.depth
  pub same_above : (k : ℕ) → k < level → record_at p k ≡ records (node_at p k)
  pub differs : record_at p level ≢ records (node_at p level)

-- the path's first record that isn't the tree's has the same digest as the tree's record there
abbrev pub Collides : (ℕ → List ℕ) → Path → Type 0
Collides records p = (level : ℕ) × IsFirstOther records p level × (sha256 (record_at p level) ≡ sha256 (records (node_at p level)))
