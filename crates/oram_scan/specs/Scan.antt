-- The records of a whole tree in the order of their nodes, and the digests by which they are judged.
use Rattle.std.specs.Prelude.{◌≡◌, ℕ, ◌+◌, ◌-◌, ◌^◌, ◌<◌, ◌≤◌, min, List, [], ◌∷◌, ◌++◌, length, drop, slice_index_or, Option, Some, None, if◌then◌else◌, nat_lt, Bool}
use Rattle.sha2.specs.Sha256.{sha256}
use Rattle.oram_hash.specs.Record.{left_digest, right_digest}
use Rattle.oram_scan.specs.declared.tree_scan.Finding.{Finding}
use Rattle.oram_scan.specs.declared.tree_scan.Finding.TheVariants.{Sound, Changed, Unchecked}

-- the number of the nodes of a tree of this depth
abbrev pub node_count : ℕ → ℕ
node_count depth = 2 ^ (depth + 1) - 1

-- What is known between two records: the node whose record comes next, and from this node on the digests of the records, as far as the
-- records above them have told.
pub record Scan : Type 0 where
  pub depth : ℕ
  pub record_len : ℕ
  pub node : ℕ
  pub digests : List (Option (List ℕ))

-- a scan that begins with the root
abbrev pub begun : ℕ → ℕ → List ℕ → Scan
begun depth record_len root = record { depth = depth; record_len = record_len; node = 0; digests = Some root ∷ [] }

-- the digest that the next record has to have, if it is known
abbrev pub expected : Scan → Option (List ℕ)
expected s = slice_index_or s.digests 0 None

abbrev pub has_children : Scan → Bool
has_children s = nat_lt (s.node + 1) (2 ^ s.depth)

-- the scan after the next node, whose children's records have these digests
abbrev pub after : Scan → Option (List ℕ) → Option (List ℕ) → Scan
after s left right = record s { node = s.node + 1; digests = drop 1 s.digests ++ (if has_children s then left ∷ right ∷ [] else []) }

-- the scan after a record that was stored
abbrev pub told : Scan → List ℕ → Scan
told s r = after s (Some (left_digest r)) (Some (right_digest r))

-- the scan after a node whose children's digests nobody knows
abbrev pub passed : Scan → Scan
passed s = after s None None

-- the record has the length and the digest of the one that was stored for the next node
abbrev pub IsStoredNext : Scan → List ℕ → Type 0
IsStoredNext s r = (length r ≡ s.record_len) × (expected s ≡ Some (sha256 r))

-- what a scan says of the next record, and the scan afterwards
abbrev pub IsFinding : Scan → List ℕ → Finding → Scan → Type 0
IsFinding s r Sound t = IsStoredNext s r × (t ≡ told s r)
IsFinding s r Changed t = (digest : List ℕ) × (expected s ≡ Some digest) × (¬ IsStoredNext s r) × (t ≡ passed s)
IsFinding s r Unchecked t = (expected s ≡ None) × (t ≡ passed s)

-- A scan knows at most one digest for each of the nodes that come next and whose parents have come.
pub record IsScan (s : Scan) : Type 0 where
  pub depth_in : s.depth ≤ 24
  pub len_in : 64 < s.record_len
  pub node_in : s.node ≤ node_count s.depth
  pub count : length s.digests ≡ min (s.node + 1) (node_count s.depth - s.node)
