-- The definitions on worked examples.
use Rattle.std.proofs.Common.{◌≡◌, ◌<◌, ◌^◌, ℕ, List, [], ◌∷◌, ◌++◌, Contains, length, replicate, Some, None, inl, inr, refl, ap, subst, arith}
use Rattle.std.proofs.lemmas.List.Elements.{Contains-append_cases}
use Rattle.std.proofs.lemmas.List.Sorted.{Contains-permutation}
use Rattle.oram_geometry.proofs.Meet.{root_meets}
use Rattle.oram_bucket.specs.Cell.{Cell}
use Rattle.oram_stash.specs.Eviction.{IsEviction, listed, all_listed}
use Rattle.oram_stash.proofs.Fewest.{list_of_listed}
use Rattle.oram_tree.specs.Content.{Entry, no_blocks, put}
use Rattle.oram_tree.specs.Edits.{with_entry}
use Rattle.oram_tree.specs.Format.{post_order}

-- a tree of one bucket, and one of fifteen
one_bucket : post_order 0 0 ≡ 0 ∷ []
unfolding post_order
one_bucket = refl

fifteen_buckets : post_order 3 0 ≡ 7 ∷ 8 ∷ 3 ∷ 9 ∷ 10 ∷ 4 ∷ 1 ∷ 11 ∷ 12 ∷ 5 ∷ 13 ∷ 14 ∷ 6 ∷ 2 ∷ 0 ∷ []
unfolding post_order
fifteen_buckets = refl

-- entry 2 of a map block of four entries
third_entry : with_entry (replicate 16 255) 2 66051 ≡ replicate 8 255 ++ 0 ∷ 1 ∷ 2 ∷ 3 ∷ [] ++ replicate 4 255
unfolding with_entry
third_entry = refl

-- a map with one block
changed : (e : Entry) → put no_blocks 5 e 5 ≡ Some e
changed e = refl

unchanged : (e : Entry) → put no_blocks 5 e 6 ≡ None
unchanged e = refl

-- keeping every block in the stash and storing only dummies is no eviction: the root's bucket has room for any block
not_all_kept : (depth slots leaf : ℕ) (waiting : List Cell) (lists : List (List Cell)) (rest : List Cell) (c : Cell) → 0 < slots → leaf < 2 ^ depth → c.leaf < 2 ^ depth → IsEviction depth slots leaf waiting lists rest → Contains waiting c
    → ((level : ℕ) → listed lists level ≡ []) → ⊥
not_all_kept depth slots leaf waiting lists rest c some leaf_in own_in e waits dummies =
    elim (Contains-append_cases (all_listed lists) rest c (Contains-permutation waiting (all_listed lists ++ rest) c e.placement.each_once waits)) [
      | inl inside ↦
          let at = list_of_listed lists c inside in
          let P : List Cell → Type 0 = λ cells. Contains cells c in
          let none = subst P (dummies at.0) at.2 in
          let h = none.1 in omega arith
      | inr stays ↦
          let full = e.greedy.full 0 c (omega arith) (root_meets depth leaf c.leaf leaf_in own_in) (inl stays) in
          omega (arith, full, ap length (dummies 0))
    ]
