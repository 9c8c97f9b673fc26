use Rattle.std.specs.Prelude.{◌≡◌, ℕ, zero, suc, ◌+◌, ◌*◌, ◌<◌, ◌≤◌, List, ◌++◌, ◌==◌, length, take, drop, if◌then◌else◌}
use Rattle.oram_geometry.specs.declared.Sizes.{Sizes}
use Rattle.oram_geometry.specs.Sizes.{depth_of, record_len_of}
use Rattle.oram_geometry.specs.Path.{node_on}
use Rattle.sha2.specs.Sha256.{sha256}
use Rattle.oram_hash.specs.Record.{no_digest, left_digest, right_digest, is_left_child}

-- bytes that are taken as the records of a path, root first
pub record Path : Type 0 where
  pub depth : ℕ
  pub leaf : ℕ
  pub record_len : ℕ
  pub bytes : List ℕ

-- these bytes, taken as the path of a leaf of tree i
abbrev pub path_of : Sizes → ℕ → ℕ → ℕ → List ℕ → Path
path_of s i leaf overhead bytes = record { depth = depth_of s i; leaf = leaf; record_len = record_len_of s overhead; bytes = bytes }

-- the same path with other bytes
abbrev pub with_bytes : Path → List ℕ → Path
with_bytes p bytes = record p { bytes = bytes }

-- the record at this level
unfoldable pub record_at : Path → ℕ → List ℕ
record_at p level = take p.record_len (drop (level * p.record_len) p.bytes)

-- the number of the path's node at this level
abbrev pub node_at : Path → ℕ → ℕ
node_at p level = node_on p.depth p.leaf level

-- the digest that a record holds for a child
unfoldable pub digest_for : List ℕ → ℕ → List ℕ
digest_for r child = if is_left_child child then left_digest r else right_digest r

-- the digest that the record at this level should have
unfoldable pub expected : Path → List ℕ → ℕ → List ℕ
expected p root zero = root
expected p root (suc level) = digest_for (record_at p level) (node_at p (level + 1))

abbrev pub HasLength : Path → Type 0
HasLength p = length p.bytes ≡ (p.depth + 1) * p.record_len

-- the record at a level has its expected digest
abbrev pub IsGenuine : Path → List ℕ → ℕ → Type 0
IsGenuine p root level = sha256 (record_at p level) ≡ expected p root level

-- the number of bytes is right, and each record has its expected digest
pub record IsAccepted (p : Path) (root : List ℕ) : Type 0 where
  pub whole : HasLength p
  pub genuine : (level : ℕ) → level ≤ p.depth → IsGenuine p root level

-- the record at this level doesn't have its expected digest, and every record above it does
pub record IsTamperedAt (p : Path) (root : List ℕ) (level : ℕ) : Type 0 where
  pub whole : HasLength p
  pub within : level ≤ p.depth
  pub genuine_above : (k : ℕ) → k < level → IsGenuine p root k
  pub forged : ¬ IsGenuine p root level

-- the new record at a level above the leaf's, with this sealed part: it holds `below` as the digest of the path's next
-- record, and for the other child the same digest as the old record
abbrev pub record_over : Path → ℕ → List ℕ → List ℕ → List ℕ
record_over p level sealed below =
    if is_left_child (node_at p (level + 1))
    then sealed ++ below ++ right_digest (record_at p level)
    else sealed ++ left_digest (record_at p level) ++ below

-- the two digests that end the path's record at this level, or zeros at the leaf's level
unfoldable pub digests_at : Path → ℕ → List ℕ
digests_at p level =
    if level == p.depth then no_digest ++ no_digest else left_digest (record_at p level) ++ right_digest (record_at p level)
