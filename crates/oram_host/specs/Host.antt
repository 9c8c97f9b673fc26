-- What a bucket host keeps.
use Rattle.std.specs.Prelude.{◌≡◌, ℕ, ◌+◌, ◌-◌, ◌*◌, ◌^◌, ◌<◌, ◌≤◌, List, [], ◌∷◌, length, Option, ⊤}
use Rattle.std.specs.List.{AllByRecursion}
use Rattle.std.specs.Map.{lookup}
use Rattle.std.specs.BTreeMap.{is_at}
use Rattle.std.specs.Ordering.{nat_cmp}
use Rattle.oram_wire.specs.declared.TheConstants.{LONGEST_BODY}

-- A tree that has a shape: its depth, the length of its records, and the records that it was given,
-- by rising node.
pub record Kept : Type 0 where
  pub depth : ℕ
  pub record_len : ℕ
  pub records : List (ℕ × List ℕ)

-- the trees that have a shape, by rising number
abbrev pub Host : Type 0
Host = List (ℕ × Kept)

-- what is kept of a tree
abbrev pub tree_at : Host → ℕ → Option Kept
tree_at host tree = lookup (is_at (nat_cmp tree)) host

-- the record that a node was last given
abbrev pub record_of : Kept → ℕ → Option (List ℕ)
record_of kept node = lookup (is_at (nat_cmp node)) kept.records

-- a shape that a tree may have: a STORE of a path has to fit in a frame
pub record IsShape (depth record_len : ℕ) : Type 0 where
  pub deep : depth ≤ 24
  pub long : 0 < record_len
  pub fits : (depth + 1) * record_len + 6 ≤ LONGEST_BODY

-- entries by rising number, from `least` on
abbrev pub RisesFrom : {X : Type 0} → ℕ → List (ℕ × X) → Type 0
RisesFrom least [] = ⊤
RisesFrom least (e ∷ es) = (least ≤ e.0) × RisesFrom (e.0 + 1) es

-- a record of `record_len` bytes, at one of the first `nodes` nodes
pub record IsRecordOf (nodes record_len : ℕ) (e : ℕ × List ℕ) : Type 0 where
  pub node : e.0 < nodes
  pub whole : length e.1 ≡ record_len

-- what a host may keep of a tree
pub record IsKept (kept : Kept) : Type 0 where
  pub shape : IsShape kept.depth kept.record_len
  pub rising : RisesFrom 0 kept.records
  pub each : AllByRecursion (IsRecordOf (2 ^ (kept.depth + 1) - 1) kept.record_len) kept.records

pub record IsKeptTree (e : ℕ × Kept) : Type 0 where
  pub number : e.0 < 256
  pub kept : IsKept e.1

-- what a host may keep
pub record IsHost (host : Host) : Type 0 where
  pub rising : RisesFrom 0 host
  pub each : AllByRecursion IsKeptTree host
