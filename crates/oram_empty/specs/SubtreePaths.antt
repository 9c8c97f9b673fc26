-- The path of a leaf in a subtree of empty buckets, and how its records get the digests of their children.
use Rattle.std.specs.Prelude.{ℕ, zero, suc, ◌+◌, ◌-◌, ◌/◌, ◌%◌, ◌^◌, ◌==◌, List, ◌++◌, take, drop, Bool, if◌then◌else◌}
use Rattle.sha2.specs.Sha256.{sha256}
use Rattle.oram_tree.specs.Content.{node_count}
use Rattle.oram_tree.specs.Subtree.{root_record}

-- In a subtree of empty buckets of this height, whose nonces begin at k, the records of a leaf's path, top first. `seal` seals the empty
-- bucket under a nonce.
unfoldable pub subtree_path : (ℕ → List ℕ) → ℕ → ℕ → ℕ → List ℕ
subtree_path seal zero k leaf = root_record seal zero k
subtree_path seal (suc h) k leaf = root_record seal (suc h) k ++ subtree_path seal h (if (leaf / 2 ^ h) % 2 == 0 then k else k + node_count h) leaf

-- the digests of two children, the left child's first; the boolean says whether the first of the two given ones is the left child's
abbrev pub in_order : Bool → List ℕ → List ℕ → List ℕ
in_order first_is_left first second = if first_is_left then first ++ second else second ++ first

-- The first record has no digests yet, and the second one is that of its child on a path. This is what the records are once the first one
-- has the digests of its children; `other` is the digest of the other child's record.
abbrev pub linked : ℕ → Bool → List ℕ → List ℕ → List ℕ
linked record_len goes_left other records =
    take (record_len - 64) records ++ in_order goes_left (sha256 (take record_len (drop record_len records))) other ++ drop record_len records
