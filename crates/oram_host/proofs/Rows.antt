-- Rows that the definitions compute.
use Rattle.std.proofs.Common.{◌≡◌, ◌∷◌, [], Some, None, refl}
use Rattle.oram_host.specs.declared.refusals.HostRefusal.TheVariants.{BadOp, OutOfMemory}
use Rattle.oram_host.specs.Host.{Host, Kept, record_of, tree_at}
use Rattle.oram_host.specs.Image.{image}
use Rattle.oram_host.specs.Path.{node_on, record_at}
use Rattle.oram_host.specs.Refusals.{code_of}

-- a tree of depth 1 with records of two bytes; two of its records were stored
abbrev kept : Kept
kept = record { depth = 1; record_len = 2; records = (0, 17 ∷ 18 ∷ []) ∷ (2, 19 ∷ 20 ∷ []) ∷ [] }

abbrev host : Host
host = (0, kept) ∷ []

image_row : image host ≡ 79 ∷ 82 ∷ 65 ∷ 77 ∷ 72 ∷ 79 ∷ 83 ∷ 84 ∷ 0 ∷ 0 ∷ 0 ∷ 1 ∷ 0 ∷ 0 ∷ 0 ∷ 1 ∷ 0 ∷ 1 ∷ 0 ∷ 0 ∷ 0 ∷ 2 ∷ 0 ∷ 0 ∷ 0 ∷ 2
    ∷ 0 ∷ 0 ∷ 0 ∷ 0 ∷ 17 ∷ 18 ∷ 0 ∷ 0 ∷ 0 ∷ 2 ∷ 19 ∷ 20 ∷ []
image_row = refl

stored_row : record_of kept 2 ≡ Some (record_at 2 (17 ∷ 18 ∷ 19 ∷ 20 ∷ []) 1)
stored_row = refl

missing_row : record_of kept 1 ≡ None
missing_row = refl

no_shape_row : tree_at host 1 ≡ None
no_shape_row = refl

-- leaf 6 of a tree of depth 3 is node 13, and leaf 1 of one of depth 1 is node 2
leaf_row : node_on 3 6 3 ≡ 13
unfolding node_on
leaf_row = refl

second_leaf : node_on 1 1 1 ≡ 2
unfolding node_on
second_leaf = refl

bad_op : code_of BadOp ≡ 7
bad_op = refl

no_memory : code_of OutOfMemory ≡ 8
no_memory = refl
