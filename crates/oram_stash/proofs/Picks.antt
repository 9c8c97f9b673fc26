-- The elements of a level, picked out of a list.
use Rattle.std.proofs.Common.{◌≡◌, ℕ, zero, suc, ◌+◌, ◌<◌, Bool, true, false, cond, eqb, List, [], ◌∷◌, ◌++◌, length, get_or, set, take, Some, None, Option, refl, sym, ◌∙◌, inl, inr, arith, append_assoc}
use Rattle.std.specs.List.{count_by, All, AllPairs, Contains}
use Rattle.std.specs.List.Sorted.{IsPermutation}
use Rattle.std.proofs.lemmas.Bool.{cases_eq, ne_eqb, eq-eqb}
use Rattle.std.proofs.lemmas.List.{get_or-set_same, get_or-set_other, get_or_default, take_more, append-nil}
use Rattle.std.proofs.lemmas.List.Sums.{sum_by-cons}
use Rattle.std.proofs.lemmas.List.Elements.{All-nil, All-cons, All-contains}
use Rattle.std.proofs.lemmas.List.Kept.{AllPairs-cons}
use Rattle.std.proofs.lemmas.List.Sorted.{IsPermutation-sym, IsPermutation-trans, IsPermutation-cons, IsPermutation-middle, IsPermutation-append_left, IsPermutation-append_right, IsPermutation-to_front}
use Rattle.oram_stash.specs.Plan.{level_at, list_at, joined, is_level, stays, picked}

-- one more element, at the end
cond_append : {X : Type 0} (b : Bool) (x : X) (xs ys : List X) → cond b (x ∷ (xs ++ ys)) (xs ++ ys) ≡ cond b (x ∷ xs) xs ++ ys
cond_append true x xs ys = refl
cond_append false x xs ys = refl

pub picked_more : {X : Type 0} (p : Option ℕ → Bool) (qs : List (Option ℕ)) (xs : List X) (k : ℕ) (d : X) → k < length qs → k < length xs → picked p (take (k + 1) qs) (take (k + 1) xs) ≡ picked p (take k qs) (take k xs) ++ cond (p (level_at qs k)) (get_or xs k d ∷ []) []
picked_more p [] xs k d lq lx = absurd (omega arith)
picked_more p (q ∷ qs) [] k d lq lx = absurd (omega arith)
picked_more p (q ∷ qs) (x ∷ xs) zero d lq lx = refl
picked_more p (q ∷ qs) (x ∷ xs) (suc k) d lq lx =
    let e : suc k + 1 ≡ suc (k + 1) = omega arith in
    let ih = picked_more p qs xs k d (omega arith) (omega arith) in
    rw (e, ih) (cond_append (p q) x _ _)

-- as many elements as there are levels that pass
pub length-picked : {X : Type 0} (p : Option ℕ → Bool) (qs : List (Option ℕ)) (xs : List X) → length qs ≡ length xs → length (picked p qs xs) ≡ count_by p qs
length-picked p [] xs same = refl
length-picked p (q ∷ qs) [] same = absurd (omega arith)
length-picked p (q ∷ qs) (x ∷ xs) same =
    let ih = length-picked p qs xs (omega arith) in
    rw (sum_by-cons (λ y. cond (p y) 1 0) q qs) (elim (p q) as (λ b. length (cond b (x ∷ picked p qs xs) (picked p qs xs)) ≡ cond b 1 0 + count_by p qs) [ true ↦ omega arith | false ↦ omega arith ])

All-cond : {X : Type 0} (P : X → Type 0) (b : Bool) (x : X) (xs : List X) → (b ≡ true → P x) → All P xs → All P (cond b (x ∷ xs) xs)
All-cond P true x xs here all = All-cons P x xs (here refl) all
All-cond P false x xs here all = all

-- what holds of each element whose level passes holds of those picked
pub All-picked : {X : Type 0} (P : X → Type 0) (p : Option ℕ → Bool) (qs : List (Option ℕ)) (xs : List X) → ((j : ℕ) (d : X) → j < length xs → p (level_at qs j) ≡ true → P (get_or xs j d)) → All P (picked p qs xs)
All-picked P p [] xs each = All-nil P
All-picked P p (q ∷ qs) [] each = All-nil P
All-picked P p (q ∷ qs) (x ∷ xs) each = All-cond P (p q) x (picked p qs xs) (each 0 x (omega arith)) (All-picked P p qs xs (λ j d lt passes. each (suc j) d (omega arith) passes))

AllPairs-cond : {X : Type 0} (R : X → X → Type 0) (b : Bool) (x : X) (xs : List X) → All (R x) xs → AllPairs R xs → AllPairs R (cond b (x ∷ xs) xs)
AllPairs-cond R true x xs all pairs = AllPairs-cons R x xs all pairs
AllPairs-cond R false x xs all pairs = pairs

-- what holds of each pair in order
pub AllPairs-picked : {X : Type 0} (R : X → X → Type 0) (p : Option ℕ → Bool) (qs : List (Option ℕ)) (xs : List X) → AllPairs R xs → AllPairs R (picked p qs xs)
AllPairs-picked R p [] xs pairs = λ i j d lt within. absurd (omega arith)
AllPairs-picked R p (q ∷ qs) [] pairs = λ i j d lt within. absurd (omega arith)
AllPairs-picked R p (q ∷ qs) (x ∷ xs) pairs =
    AllPairs-cond R (p q) x (picked p qs xs)
    (All-picked (R x) p qs xs (λ j d lt passes. pairs 0 (suc j) d (omega arith) (omega arith)))
    (AllPairs-picked R p qs xs (λ i j d lt within. pairs (suc i) (suc j) d (omega arith) (omega arith)))

-- the element's index has a level that passes
abbrev pub StandsAt : {X : Type 0} → (Option ℕ → Bool) → List (Option ℕ) → List X → X → Type 0
StandsAt p qs xs x = (j : ℕ) × (j < length xs) × (get_or xs j x ≡ x) × (p (level_at qs j) ≡ true)

-- each picked element does
pub StandsAt-picked : {X : Type 0} (p : Option ℕ → Bool) (qs : List (Option ℕ)) (xs : List X) (x : X) → Contains (picked p qs xs) x → StandsAt p qs xs x
StandsAt-picked p qs xs x inside = All-contains (StandsAt p qs xs) (picked p qs xs) x (All-picked (StandsAt p qs xs) p qs xs (λ j d lt passes. (j, lt, get_or_default xs j _ d lt, passes))) inside

-- adding a block to one list adds it to the blocks of all lists
pub joined-set : {X : Type 0} (lists : List (List X)) (l : ℕ) (x : X) → l < length lists → IsPermutation (x ∷ joined lists) (joined (set lists l (list_at lists l ++ x ∷ [])))
joined-set [] l x lt = absurd (omega arith)
joined-set (ys ∷ lists) zero x lt = rw (append_assoc ys (x ∷ []) (joined lists)) (IsPermutation-sym _ _ (IsPermutation-middle ys x (joined lists)))
joined-set (ys ∷ lists) (suc l) x lt =
    IsPermutation-trans _ _ _ (IsPermutation-sym _ _ (IsPermutation-middle ys x (joined lists))) (IsPermutation-append_right ys _ _ (joined-set lists l x (omega arith)))

-- the lists after it
pub list_at-set : {X : Type 0} (lists : List (List X)) (l k : ℕ) (x : X) → l < length lists → list_at (set lists l (list_at lists l ++ x ∷ [])) k ≡ list_at lists k ++ cond (eqb l k) (x ∷ []) []
list_at-set lists l k x lt = elim (cases_eq k l) [
  | inl same ↦ rw (same, eq-eqb l l refl) (get_or-set_same lists l _ [] lt)
  | inr ne ↦ rw (ne_eqb l k (λ e. ne (sym e)), append-nil) (get_or-set_other lists l k _ [] ne)
]

-- the first k blocks have gone to the lists of their levels, or to the rest
pub record Moved {X : Type 0} (levels : List (Option ℕ)) (blocks : List X) (k : ℕ) (lists : List (List X)) (rest : List X) : Type 0 where
  pub to_list : (l : ℕ) → list_at lists l ≡ picked (is_level l) (take k levels) (take k blocks)
  pub to_rest : rest ≡ picked stays (take k levels) (take k blocks)
  pub each_once : IsPermutation (take k blocks) (joined lists ++ rest)

module _ {X : Type 0} (levels : List (Option ℕ)) (blocks : List X) (k : ℕ) (lists : List (List X)) (rest : List X) (moved : Moved levels blocks k lists rest) (x : X) (in_blocks : k < length blocks) (in_levels : k < length levels) (read : x ≡ get_or blocks k x) where
  -- the next block goes to the list of its level
  pub Moved-listed : (l : ℕ) → level_at levels k ≡ Some l → l < length lists → Moved levels blocks (k + 1) (set lists l (list_at lists l ++ x ∷ [])) rest
  Moved-listed l is lt = record {
    to_list = λ m. list_at-set lists l m x lt ∙ rw (picked_more (is_level m) levels blocks k x in_levels in_blocks, is, ← read, ← moved.to_list m) refl;
    to_rest = rw (picked_more stays levels blocks k x in_levels in_blocks, is, append-nil, ← moved.to_rest) refl;
    each_once = rw (take_more blocks k x in_blocks, ← read) (IsPermutation-trans _ _ _ (IsPermutation-to_front (take k blocks) x) (IsPermutation-trans _ _ _ (IsPermutation-cons x _ _ moved.each_once) (IsPermutation-append_left rest _ _ (joined-set lists l x lt))));
  }

  -- the next block stays
  pub Moved-rest : level_at levels k ≡ None → Moved levels blocks (k + 1) lists (rest ++ x ∷ [])
  Moved-rest is = record {
    to_list = λ m. rw (picked_more (is_level m) levels blocks k x in_levels in_blocks, is, append-nil, ← moved.to_list m) refl;
    to_rest = rw (picked_more stays levels blocks k x in_levels in_blocks, is, ← read, ← moved.to_rest) refl;
    each_once = rw (take_more blocks k x in_blocks, ← read, ← append_assoc) (IsPermutation-append_left (x ∷ []) _ _ moved.each_once);
  }
