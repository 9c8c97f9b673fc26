-- Exchanging two stored records.
use Rattle.std.specs.Prelude.{◌≡◌, ◌≢◌, ℕ, List, length, Option, Some}
use Rattle.std.specs.Option.{option_and_then, option_map}
use Rattle.oram_host.specs.Host.{Host, record_of, tree_at}

-- the record of a node of a host's tree
unfoldable pub stored_at : Host → ℕ → ℕ → Option (List ℕ)
stored_at host tree node = option_and_then (λ kept. record_of kept node) (tree_at host tree)

-- the depth of a host's tree, and the length of its records
unfoldable pub shape_at : Host → ℕ → Option (ℕ × ℕ)
shape_at host tree = option_map (λ kept. (kept.depth, kept.record_len)) (tree_at host tree)

-- each of two records of one length is where the other was, and nothing else changed
pub record IsSwapped (old : Host) (tree_a node_a tree_b node_b : ℕ) (new : Host) : Type 0 where
  pub a : List ℕ
  pub b : List ℕ
  pub was_a : stored_at old tree_a node_a ≡ Some a
  pub was_b : stored_at old tree_b node_b ≡ Some b
  pub alike : length a ≡ length b
  pub is_a : stored_at new tree_a node_a ≡ Some b
  pub is_b : stored_at new tree_b node_b ≡ Some a
  pub others : (tree node : ℕ) → (tree ≡ tree_a → node ≢ node_a) → (tree ≡ tree_b → node ≢ node_b) → stored_at new tree node ≡ stored_at old tree node
  pub shapes : (tree : ℕ) → shape_at new tree ≡ shape_at old tree

-- a record is missing, or the two have different lengths
abbrev pub LacksPair : Host → ℕ → ℕ → ℕ → ℕ → Type 0
LacksPair host tree_a node_a tree_b node_b =
    (a b : List ℕ) → stored_at host tree_a node_a ≡ Some a → stored_at host tree_b node_b ≡ Some b → length a ≢ length b
