-- Lists of blocks by rising address, by what they contain.
use Rattle.std.proofs.Common.{◌≡◌, ◌≢◌, ℕ, zero, suc, ◌+◌, ◌<◌, ◌≤◌, eqb, List, [], ◌∷◌, ◌++◌, length, get_or, map, ◌⊎◌, refl, sym, ap, subst, ◌∙◌, inl, inr, arith}
use mathlib.Core.Bool.{false≢true}
use Rattle.std.specs.List.{AllPairs, Contains}
use Rattle.std.specs.List.Sorted.{IsPermutation}
use Rattle.std.proofs.lemmas.Bool.{cases_eq, ne_eqb, eq-eqb}
use Rattle.std.proofs.lemmas.List.{get_or_default, get_or-map, length-map, length-append, get_or_append_left, get_or-append-add}
use Rattle.std.proofs.lemmas.List.Elements.{Contains-append_right}
use Rattle.std.proofs.lemmas.List.Sorted.{IsPermutation-map}
use Rattle.std.proofs.lemmas.Map.Keys.{IsDistinct-from_apart, apart_from_distinct, IsDistinct-IsPermutation}
use Rattle.oram_bucket.specs.declared.block.Block.{Block}
use Rattle.oram_bucket.specs.Cell.{IsRising}
use Rattle.oram_stash.specs.Eviction.{listed, all_listed}
use Rattle.oram_stash.proofs.Tight.{Contains-all_listed}

-- an element of x ∷ xs is x or one of xs
pub Contains-cases : (x : Block) (xs : List Block) (y : Block) → Contains (x ∷ xs) y → (y ≡ x) ⊎ Contains xs y
Contains-cases x xs y (zero, lt, is) = inl (sym is)
Contains-cases x xs y (suc k, lt, is) = inr (k, omega arith, is)

pub Contains-first : (x : Block) (xs : List Block) → Contains (x ∷ xs) x
Contains-first x xs = (0, omega arith, refl)

pub Contains-later : (x : Block) (xs : List Block) (y : Block) → Contains xs y → Contains (x ∷ xs) y
Contains-later x xs y inside = Contains-append_right (x ∷ []) xs y inside

pub IsRising-tail : (x : Block) (xs : List Block) → IsRising (x ∷ xs) → IsRising xs
IsRising-tail x xs rising i j d lt within = rising (suc i) (suc j) d (omega arith) (omega arith)

-- the first address is less than those that follow
pub below_later : (x : Block) (xs : List Block) (y : Block) → IsRising (x ∷ xs) → Contains xs y → x.address < y.address
below_later x xs y rising (k, lt, is) = subst (λ (b : Block). x.address < b.address) is (rising 0 (suc k) y (omega arith) (omega arith))

-- a rising list is no longer than one that contains its elements
pub length-le : (xs ys : List Block) → IsRising xs → IsRising ys → ((b : Block) → Contains xs b → Contains ys b) → length xs ≤ length ys
length-le [] ys rx ry part = omega arith
length-le (x ∷ xs) [] rx ry part = absurd (let h = (part x (Contains-first x xs)).1 in omega arith)
length-le (x ∷ xs) (y ∷ ys) rx ry part = elim (Contains-cases y ys x (part x (Contains-first x xs))) as (λ _. suc (length xs) ≤ suc (length ys)) [
  | inl same ↦
      let ih = length-le xs ys (IsRising-tail x xs rx) (IsRising-tail y ys ry) (λ b inside. elim (Contains-cases y ys b (part b (Contains-later x xs b inside))) [
        | inl is_y ↦ absurd (let lt = below_later x xs b rx inside in let e : x.address ≡ b.address = ap (λ (c : Block). c.address) (same ∙ sym is_y) in omega arith)
        | inr later ↦ later
      ]) in omega arith
  | inr later ↦
      let above = below_later y ys x ry later in
      let ih = length-le (x ∷ xs) ys rx (IsRising-tail y ys ry) (λ b inside. elim (Contains-cases y ys b (part b inside)) [
        | inl is_y ↦ absurd (elim (Contains-cases x xs b inside) [
          | inl is_x ↦ let e : y.address ≡ x.address = ap (λ (c : Block). c.address) (sym is_y ∙ is_x) in omega arith
          | inr after ↦ let lt = below_later x xs b rx after in let e : b.address ≡ y.address = ap (λ (c : Block). c.address) is_y in omega arith
        ])
        | inr after ↦ after
      ]) in omega arith
]

-- rising lists with the same elements are equal
pub same_rising : (xs ys : List Block) → IsRising xs → IsRising ys → ((b : Block) → Contains xs b → Contains ys b) → ((b : Block) → Contains ys b → Contains xs b) → xs ≡ ys
same_rising [] [] rx ry there back = refl
same_rising [] (y ∷ ys) rx ry there back = absurd (let h = (back y (Contains-first y ys)).1 in omega arith)
same_rising (x ∷ xs) [] rx ry there back = absurd (let h = (there x (Contains-first x xs)).1 in omega arith)
same_rising (x ∷ xs) (y ∷ ys) rx ry there back =
    let same : x ≡ y = elim (Contains-cases y ys x (there x (Contains-first x xs))) as (λ _. x ≡ y) [
      | inl is ↦ is
      | inr later ↦ elim (Contains-cases x xs y (back y (Contains-first y ys))) as (λ _. x ≡ y) [
        | inl is ↦ sym is
        | inr after ↦ absurd (let a = below_later y ys x ry later in let b = below_later x xs y rx after in omega arith)
      ]
    ] in
    let addresses : x.address ≡ y.address = ap (λ (c : Block). c.address) same in
    let tails = same_rising xs ys (IsRising-tail x xs rx) (IsRising-tail y ys ry)
    (λ b inside. elim (Contains-cases y ys b (there b (Contains-later x xs b inside))) [
      | inl is ↦ absurd (let lt = below_later x xs b rx inside in let e : b.address ≡ y.address = ap (λ (c : Block). c.address) is in omega arith)
      | inr after ↦ after
    ])
    (λ b inside. elim (Contains-cases x xs b (back b (Contains-later y ys b inside))) [
      | inl is ↦ absurd (let lt = below_later y ys b ry inside in let e : b.address ≡ x.address = ap (λ (c : Block). c.address) is in omega arith)
      | inr after ↦ after
    ]) in
    cc

eqb_flip : (a b : ℕ) → eqb a b ≡ eqb b a
eqb_flip a b = elim (cases_eq a b) [
  | inl same ↦ eq-eqb a b same ∙ sym (eq-eqb b a (sym same))
  | inr differ ↦ ne_eqb a b differ ∙ sym (ne_eqb b a (λ e. differ (sym e)))
]

-- no two blocks at different indices have the same address
abbrev pub AreApart : List Block → Type 0
AreApart = AllPairs (λ b c. b.address ≢ c.address)

-- nor do they after a permutation
pub AreApart-moved : (xs ys : List Block) → AreApart xs → IsPermutation xs ys → AreApart ys
AreApart-moved xs ys apart moved i j d lt within same =
    let address : Block → ℕ = λ (b : Block). b.address in
    let distinct = IsDistinct-from_apart eqb (map address xs) (λ i j n lt within.
    let long : j < length xs = rw length-map at within in
    ne_eqb _ _ (rw (get_or-map address xs i d n (omega arith), get_or-map address xs j d n long) (apart i j d lt long))) in
    let distinct_after = IsDistinct-IsPermutation eqb (λ a b. eqb_flip a b) (map address xs) (map address ys) (IsPermutation-map address xs ys moved) distinct in
    let differ = apart_from_distinct eqb (map address ys) i j 0 distinct_after lt (rw length-map within) in
    let equal = eq-eqb _ _ (get_or-map address ys i d 0 (omega arith) ∙ same ∙ sym (get_or-map address ys j d 0 within)) in
    false≢true (sym differ ∙ equal)

-- the same after a permutation of a rising list
pub AreApart-permuted : (xs ys : List Block) → IsRising xs → IsPermutation xs ys → AreApart ys
AreApart-permuted xs ys rising moved = AreApart-moved xs ys (λ i j d lt within same. let r = rising i j d lt within in omega arith) moved

-- blocks of two parts
pub apart_parts : (xs ys : List Block) (b c : Block) → AreApart (xs ++ ys) → Contains xs b → Contains ys c → b.address ≢ c.address
apart_parts xs ys b c apart (i, lt, is) (j, within, there) =
    let n = length-append xs ys in
    let pair = apart i (length xs + j) b (omega arith) (omega arith) in
    subst (λ (e : Block). b.address ≢ e.address) (get_or-append-add xs ys j b ∙ get_or_default ys j b c within ∙ there) (subst (λ (e : Block). e.address ≢ (get_or (xs ++ ys) (length xs + j) b).address) (get_or_append_left xs ys b i lt ∙ is) pair)

pub AreApart-right : (xs ys : List Block) → AreApart (xs ++ ys) → AreApart ys
AreApart-right xs ys apart i j d lt within =
    let n = length-append xs ys in
    let pair = apart (length xs + i) (length xs + j) d (omega arith) (omega arith) in
    rw (get_or-append-add xs ys i d, get_or-append-add xs ys j d) at pair

pub AreApart-left : (xs ys : List Block) → AreApart (xs ++ ys) → AreApart xs
AreApart-left xs ys apart i j d lt within =
    let n = length-append xs ys in
    let pair = apart i j d lt (omega arith) in
    rw (get_or_append_left xs ys d i (omega arith), get_or_append_left xs ys d j within) at pair

-- blocks of two lists
pub apart_lists : (lists : List (List Block)) (l k : ℕ) (b c : Block) → AreApart (all_listed lists) → l < k → Contains (listed lists l) b → Contains (listed lists k) c → b.address ≢ c.address
apart_lists [] l k b c apart lt here there = absurd (let h = here.1 in omega arith)
apart_lists (xs ∷ lists) l zero b c apart lt here there = absurd (omega arith)
apart_lists (xs ∷ lists) zero (suc k) b c apart lt here there = apart_parts xs (all_listed lists) b c apart here (Contains-all_listed lists k c there)
apart_lists (xs ∷ lists) (suc l) (suc k) b c apart lt here there = apart_lists lists l k b c (AreApart-right xs (all_listed lists) apart) (omega arith) here there
