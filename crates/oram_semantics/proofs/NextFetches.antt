-- One more command at the end of those that wait.
use Rattle.std.proofs.Common.{◌≡◌, ℕ, ◌+◌, ◌-◌, List, [], ◌∷◌, ◌++◌, length, slice_index, slice_set, refl, ap, ◌∙◌}
use Rattle.std.proofs.lemmas.List.{length-set}
use Rattle.oram_geometry.specs.declared.Sizes.{Sizes}
use Rattle.oram_geometry.specs.Sizes.{trees_of}
use Rattle.oram_trace.specs.declared.entries.Entry.{Entry}
use Rattle.oram_semantics.specs.Content.{block_of, new_leaf}
use Rattle.oram_semantics.specs.Moves.{fetch_at}
use Rattle.oram_semantics.specs.NextFetches.{first_fetches, table_after}
use Rattle.oram_semantics.specs.declared.events.Submission.{Submission}

-- the table keeps its length
pub length-table_after : (d : Sizes) (table : List ℕ) (xs : List Submission) → length (table_after d table xs) ≡ length table
unfolding table_after
length-table_after d table [] = refl
length-table_after d table (x ∷ rest) =
    length-table_after d (slice_set table (block_of d (trees_of d - 1) x) (new_leaf d (trees_of d - 1) x + 1)) rest
    ∙ length-set table (block_of d (trees_of d - 1) x) (new_leaf d (trees_of d - 1) x + 1)

-- one more command names its block last
pub table_after-push : (d : Sizes) (table : List ℕ) (xs : List Submission) (y : Submission)
    → table_after d table (xs ++ y ∷ []) ≡ slice_set (table_after d table xs) (block_of d (trees_of d - 1) y) (new_leaf d (trees_of d - 1) y + 1)
unfolding table_after
table_after-push d table [] y = refl
table_after-push d table (x ∷ rest) y =
    table_after-push d (slice_set table (block_of d (trees_of d - 1) x) (new_leaf d (trees_of d - 1) x + 1)) rest y

-- and begins with the table that the ones before it leave
pub first_fetches-push : (d : Sizes) (table : List ℕ) (xs : List Submission) (y : Submission)
    → first_fetches d table (xs ++ y ∷ []) ≡ first_fetches d table xs ++ fetch_at d 0 (slice_index (table_after d table xs) (block_of d (trees_of d - 1) y)) y ∷ []
unfolding first_fetches table_after
first_fetches-push d table [] y = refl
first_fetches-push d table (x ∷ rest) y =
    ap (λ (es : List Entry). fetch_at d 0 (slice_index table (block_of d (trees_of d - 1) x)) x ∷ es)
    (first_fetches-push d (slice_set table (block_of d (trees_of d - 1) x) (new_leaf d (trees_of d - 1) x + 1)) rest y)
