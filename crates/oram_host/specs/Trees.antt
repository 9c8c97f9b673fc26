-- A tree in memory, and what it keeps.
use Rattle.std.specs.Prelude.{◌≡◌, ◌≢◌, ℕ, ◌+◌, ◌-◌, ◌^◌, ◌<◌, ◌⊎◌, Bool, nat_lt, List, [], length, filter, map, All, Option, Some}
use Rattle.std.specs.Option.{option_and_then, option_map}
use Rattle.std.specs.BTreeMap.{BTreeMap, IsOrdered, get, keys, values}
use Rattle.std.specs.Ordering.{nat_cmp}
use Rattle.oram_host.specs.declared.trees.Tree.{Tree}
use Rattle.oram_host.specs.Host.{Host, IsShape, Kept}
use Rattle.oram_host.specs.Swaps.{stored_at}

-- a record exists; empty bytes are only room for one
abbrev pub is_there : List ℕ → Bool
is_there bytes = nat_lt 0 (length bytes)

-- the records that are there
abbrev pub records_in : BTreeMap ℕ (List ℕ) → List (ℕ × List ℕ)
records_in records = filter (λ e. is_there e.1) records.entries

abbrev pub kept_by : Tree → Kept
kept_by tree = record { depth = tree.depth; record_len = tree.record_len; records = records_in tree.records }

-- a record of this length, or room for one
abbrev pub IsRecord : ℕ → List ℕ → Type 0
IsRecord record_len bytes = (bytes ≡ []) ⊎ (length bytes ≡ record_len)

-- nodes of a tree of this depth
abbrev pub AreNodes : ℕ → List ℕ → Type 0
AreNodes depth nodes = All (λ node. node < 2 ^ (depth + 1) - 1) nodes

pub record IsTree (tree : Tree) : Type 0 where
  pub shape : IsShape tree.depth tree.record_len
  pub ordered : IsOrdered nat_cmp tree.records
  pub nodes : AreNodes tree.depth (keys tree.records)
  pub whole : All (IsRecord tree.record_len) (values tree.records)

-- the host that the trees make up
abbrev pub host_of : BTreeMap ℕ Tree → Host
host_of trees = map (λ e. (e.0, kept_by e.1)) trees.entries

-- the trees of a host
pub record AreTrees (trees : BTreeMap ℕ Tree) : Type 0 where
  pub ordered : IsOrdered nat_cmp trees
  pub each : All IsTree (values trees)
  pub numbers : All (λ number. number < 256) (keys trees)

-- the bytes at a node of one of the trees: a record, or room for one
unfoldable pub slot_at : BTreeMap ℕ Tree → ℕ → ℕ → Option (List ℕ)
slot_at trees tree node = option_and_then (λ kept. get nat_cmp kept.records node) (get nat_cmp trees tree)

-- the depth of one of the trees, and the length of its records
unfoldable pub shape_in : BTreeMap ℕ Tree → ℕ → Option (ℕ × ℕ)
shape_in trees tree = option_map (λ kept. (kept.depth, kept.record_len)) (get nat_cmp trees tree)

-- the bytes at a node are `bytes` now, and nothing else changed
pub record IsExchanged (old : BTreeMap ℕ Tree) (tree node : ℕ) (bytes : List ℕ) (new : BTreeMap ℕ Tree) : Type 0 where
  pub here : slot_at new tree node ≡ Some bytes
  pub others : (t n : ℕ) → (t ≡ tree → n ≢ node) → slot_at new t n ≡ slot_at old t n
  pub shapes : (t : ℕ) → shape_in new t ≡ shape_in old t

-- a node has a record of `len` bytes, which is the length of its tree's records
pub record IsThere (trees : BTreeMap ℕ Tree) (tree node len : ℕ) : Type 0 where
  pub bytes : List ℕ
  pub long : length bytes ≡ len
  pub some : 0 < len
  pub slot : slot_at trees tree node ≡ Some bytes
  pub stored : stored_at (host_of trees) tree node ≡ Some bytes
  pub shaped : (shape : ℕ × ℕ) → shape_in trees tree ≡ Some shape → shape.1 ≡ len
