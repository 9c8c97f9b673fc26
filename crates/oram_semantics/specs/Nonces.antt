-- The nonce of each sealed bucket of a run: the number of buckets that were sealed before it, in all trees.
use Rattle.std.specs.Prelude.{◌≡◌, ◌≢◌, ℕ, ◌<◌, ◌≤◌, zero, suc, ◌+◌, ◌-◌, ◌*◌, ◌/◌}
use Rattle.oram_geometry.specs.declared.Sizes.{Sizes}
use Rattle.oram_geometry.specs.Sizes.{trees_of, depth_of}
use Rattle.oram_tree.specs.Content.{node_count}

-- the number of buckets in the formatting of the trees before tree n: one for each node
unfoldable pub formatted_below : Sizes → ℕ → ℕ
formatted_below d zero = 0
formatted_below d (suc n) = formatted_below d n + node_count (depth_of d n)

-- the number of buckets in a whole formatting
abbrev pub formatted : Sizes → ℕ
formatted d = formatted_below d (trees_of d)

-- the number of buckets on one path in each tree before tree n
unfoldable pub buckets_below : Sizes → ℕ → ℕ
buckets_below d zero = 0
buckets_below d (suc n) = buckets_below d n + (depth_of d n + 1)

-- the number of buckets on one path in each tree after tree i; a ticket stores these paths before that of tree i
abbrev pub buckets_after : Sizes → ℕ → ℕ
buckets_after d i = buckets_below d (trees_of d) - buckets_below d (i + 1)

-- the nonce of the root's bucket in the STORE of tree i by ticket t; that of the bucket at level l is greater by l
abbrev pub store_nonce : Sizes → ℕ → ℕ → ℕ
store_nonce d t i = formatted d + t * buckets_below d (trees_of d) + buckets_after d i

-- the nonce for the next bucket, if this many tickets have their replies and the next ticket is at this stage; the
-- next ticket has sealed a path for each of its STOREs up to this stage
abbrev pub next_nonce : Sizes → ℕ → ℕ → ℕ
next_nonce d answered entry_number =
    formatted d + answered * buckets_below d (trees_of d) + (buckets_below d (trees_of d) - buckets_below d (trees_of d - (entry_number + 1) / 2))

-- No two sealed buckets of a run have the same nonce: not two of the formatting, each given by its tree and its index
-- in the order of the PUTs; not two of STOREs, each given by its ticket, tree and level; and not one of each.
pub record AreNoncesApart (d : Sizes) : Type 0 where
  pub puts : (i j k m : ℕ) → i < trees_of d → j < trees_of d → k < node_count (depth_of d i) → m < node_count (depth_of d j)
      → formatted_below d i + k ≡ formatted_below d j + m → (i ≡ j) × (k ≡ m)
  pub stores : (t u i j l m : ℕ) → i < trees_of d → j < trees_of d → l ≤ depth_of d i → m ≤ depth_of d j
      → store_nonce d t i + l ≡ store_nonce d u j + m → (t ≡ u) × (i ≡ j) × (l ≡ m)
  pub between : (t i j k l : ℕ) → i < trees_of d → k < node_count (depth_of d i) → formatted_below d i + k ≢ store_nonce d t j + l

abbrev pub NoncesAreApart : Type 0
NoncesAreApart = (d : Sizes) → AreNoncesApart d
