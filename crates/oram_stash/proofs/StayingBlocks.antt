-- The blocks of two lists, sorted by address, and those of them that stay.
use Rattle.std.proofs.Common.{◌≡◌, ◌≢◌, ◌⊎◌, ◌↔◌, ℕ, suc, ◌+◌, ◌-◌, ◌<◌, ◌≤◌, eqb, not, Bool, true, false, cond, is_ok, MatchResult, Result, Ok, Err, List, [], ◌∷◌, ◌++◌, length, get_or, map, inl, inr, refl, sym, ap, subst, ◌∙◌, arith}
use mathlib.Core.Bool.{false≢true}
use Rattle.std.specs.List.{AllPairs, Contains, filter, list_any}
use Rattle.std.specs.List.Sorted.{IsPermutation, IsNonDecreasingBy, IsBinarySearchResult}
use Rattle.std.specs.Ordering.{nat_cmp}
use Rattle.std.proofs.lemmas.Bool.{cases_lt, cases_eq, eq-eqb, ne_eqb}
use Rattle.std.proofs.lemmas.List.{get_or_default, get_or-map, length-map, length-append, get_or_append_left, get_or-append-add}
use Rattle.std.proofs.lemmas.List.Elements.{All-contains, All-contains_itself, All-filter, filter_passes, Contains-get_or, Contains-append_left, Contains-append_right, Contains-append_cases}
use Rattle.std.proofs.lemmas.List.Folds.{list_any-from_Any, list_any_none}
use Rattle.std.proofs.lemmas.List.Kept.{AllPairs-filter}
use Rattle.std.proofs.lemmas.List.Sorted.{IsPermutation-map, IsPermutation-sym, Contains-permutation, searched}
use Rattle.oram_bucket.specs.declared.block.Block.{Block}
use Rattle.oram_bucket.specs.Cell.{IsRising}
use Rattle.oram_stash.proofs.SortedBlocks.{AreApart, AreApart-moved, Contains-cases, Contains-first, Contains-later}

-- two rising lists without a common address
pub AreApart-joined : (xs ys : List Block) → IsRising xs → IsRising ys → ((c d : Block) → Contains xs c → Contains ys d → c.address ≢ d.address) → AreApart (xs ++ ys)
AreApart-joined xs ys rx ry cross i j d lt within =
    let n = length-append xs ys in
    elim (cases_lt j (length xs)) [
      | inl both ↦ rw (get_or_append_left xs ys d i (omega arith), get_or_append_left xs ys d j both) (let r = rx i j d lt both in λ e. omega arith)
      | inr later ↦
          let k = j - length xs in
          let at : length xs + k ≡ j = omega arith in
          let second : get_or (xs ++ ys) j d ≡ get_or ys k d = ap (λ m. get_or (xs ++ ys) m d) (sym at) ∙ get_or-append-add xs ys k d in
          elim (cases_lt i (length xs)) [
            | inl first ↦ rw (get_or_append_left xs ys d i first, second) (cross (get_or xs i d) (get_or ys k d) (Contains-get_or xs i d first) (Contains-get_or ys k d (omega arith)))
            | inr none ↦
                let m = i - length xs in
                let at_i : length xs + m ≡ i = omega arith in
                let early : get_or (xs ++ ys) i d ≡ get_or ys m d = ap (λ q. get_or (xs ++ ys) q d) (sym at_i) ∙ get_or-append-add xs ys m d in
                let r = ry m k d (omega arith) (omega arith) in
                rw (early, second) (λ e. omega arith)
          ]
    ]

nondecreasing_map : {X : Type 0} (f : X → Block) (ys : List X) → IsNonDecreasingBy (λ x. (f x).address) ys → IsNonDecreasingBy (λ (b : Block). b.address) (map f ys)
nondecreasing_map f [] sorted i j d le within = absurd (omega arith)
nondecreasing_map f (y ∷ ys) sorted i j d le within =
    let long : j < length (y ∷ ys) = rw length-map at within in
    rw (get_or-map f (y ∷ ys) i y d (omega arith), get_or-map f (y ∷ ys) j y d long) (sorted i j y le long)

-- sorted by address, such lists rise
pub sorted_rises : {X : Type 0} (f : X → Block) (xs ys : List X) → IsPermutation xs ys → AreApart (map f xs) → IsNonDecreasingBy (λ x. (f x).address) ys → IsRising (map f ys)
sorted_rises f xs ys moved apart sorted i j d lt within =
    let low = nondecreasing_map f ys sorted i j d (omega arith) within in
    let differ = AreApart-moved (map f xs) (map f ys) apart (IsPermutation-map f xs ys moved) i j d lt within in
    omega arith

-- the same of blocks themselves
pub sorted_blocks_rise : (xs ys : List Block) → IsPermutation xs ys → AreApart xs → IsNonDecreasingBy (λ (b : Block). b.address) ys → IsRising ys
sorted_blocks_rise xs ys moved apart sorted i j d lt within =
    let low = sorted i j d (omega arith) within in
    let differ = AreApart-moved xs ys apart moved i j d lt within in
    omega arith

-- the elements that a filter keeps
pub Contains-filter : (p : Block → Bool) (xs : List Block) (c : Block) → Contains (filter p xs) c ↔ (Contains xs c × (p c ≡ true))
Contains-filter p xs c = (
  λ inside. (All-contains (Contains xs) (filter p xs) c (All-filter p (Contains xs) xs (All-contains_itself xs)) inside, All-contains (λ x. p x ≡ true) (filter p xs) c (filter_passes p xs) inside),
  λ (inside, passes). kept p xs c inside passes,
)
  where
    kept : (p : Block → Bool) (xs : List Block) (c : Block) → Contains xs c → p c ≡ true → Contains (filter p xs) c
    kept p [] c inside passes = absurd (let h = inside.1 in omega arith)
    kept p (x ∷ xs) c inside passes = elim (Contains-cases x xs c inside) [
      | inl is ↦
          let P : Block → Type 0 = λ y. Contains (filter p (y ∷ xs)) c in
          subst P is (rw passes (Contains-first c (filter p xs)))
      | inr later ↦ elim (p x) as (λ b. Contains (cond b (x ∷ filter p xs) (filter p xs)) c) [
        | true ↦ Contains-later x (filter p xs) c (kept p xs c later passes)
        | false ↦ kept p xs c later passes
      ]
    ]

-- a test of an address
pub not_at : (a b : ℕ) → not (eqb a b) ≡ true → a ≢ b
not_at a b differs same = false≢true (sym (ap not (eq-eqb a b same)) ∙ differs)

pub not_at-back : (a b : ℕ) → a ≢ b → not (eqb a b) ≡ true
not_at-back a b differ = ap not (ne_eqb a b differ)

-- the blocks of a list except the one with this address, and those of another list: sorted, they rise and are the same blocks
pub waiting_apart : (own other : List Block) (address : ℕ) → IsRising own → IsRising other → ((c d : Block) → Contains own c → Contains other d → c.address ≡ d.address → c.address ≡ address) → AreApart (filter (λ b. not (eqb b.address address)) own ++ other)
waiting_apart own other address ro rt apart =
    let p : Block → Bool = λ (b : Block). not (eqb b.address address) in
    AreApart-joined (filter p own) other (AllPairs-filter (λ (b c : Block). b.address < c.address) p own ro) rt
    (λ c d here there same. let kept = (Contains-filter p own c).0 here in not_at c.address address kept.1 (apart c d kept.0 there same))

pub waiting_are : (own other after : List Block) (address : ℕ) → IsPermutation (filter (λ b. not (eqb b.address address)) own ++ other) after → (c : Block) → Contains after c ↔ ((Contains own c × (c.address ≢ address)) ⊎ Contains other c)
waiting_are own other after address moved c =
    let p : Block → Bool = λ (b : Block). not (eqb b.address address) in (
      λ inside. elim (Contains-append_cases (filter p own) other c (Contains-permutation after (filter p own ++ other) c (IsPermutation-sym (filter p own ++ other) after moved) inside)) [
        | inl kept ↦ let k = (Contains-filter p own c).0 kept in inl (k.0, not_at c.address address k.1)
        | inr others ↦ inr others
      ],
      λ from. Contains-permutation (filter p own ++ other) after c moved (elim from [
        | inl (here, differ) ↦ Contains-append_left (filter p own) other c ((Contains-filter p own c).1 (here, not_at-back c.address address differ))
        | inr others ↦ Contains-append_right (filter p own) other c others
      ]),
    )

-- an address among some
pub among-Contains : (ns : List ℕ) (a : ℕ) → (list_any (λ s. eqb s a) ns ≡ true) ↔ Contains ns a
among-Contains ns a = (there ns, back ns)
  where
    there : (ns : List ℕ) → list_any (λ s. eqb s a) ns ≡ true → Contains ns a
    there [] found = absurd (false≢true found)
    there (s ∷ ns) found = elim (cases_eq s a) [
      | inl same ↦ (0, omega arith, same)
      | inr differ ↦ let later = there ns (rw (ne_eqb s a differ) at found) in (suc later.0, omega (arith, later.1), later.2)
    ]

    back : (ns : List ℕ) → Contains ns a → list_any (λ s. eqb s a) ns ≡ true
    back ns inside = list_any-from_Any (λ s. eqb s a) ns (inside.0, a, inside.1, inside.2, eq-eqb a a refl)

pub among : (ns : List ℕ) (a : ℕ) (r : Result ℕ ℕ) → AllPairs (λ x y. x < y) ns → IsBinarySearchResult (λ y. nat_cmp y a) ns r → is_ok r ≡ list_any (λ s. eqb s a) ns
among ns a r rising result =
    let found = searched ns a r result (λ i j le lt. elim (cases_lt i j) [ inl below ↦ (let h = rising i j 0 below lt in omega arith) | inr not_below ↦ (let e : i ≡ j = omega arith in omega (arith, ap (λ n. get_or ns n 0) e)) ]) in
    go r found
  where
    go : (r : Result ℕ ℕ) → MatchResult r (λ i. (i < length ns) × (get_or ns i 0 ≡ a)) (λ i. (i ≤ length ns) × ((k : ℕ) → k < i → get_or ns k 0 < a) × ((k : ℕ) → i ≤ k → k < length ns → a < get_or ns k 0)) → is_ok r ≡ list_any (λ s. eqb s a) ns
    go (Ok i) found = sym ((among-Contains ns a).1 (i, found.0, get_or_default ns i a 0 found.0 ∙ found.1))
    go (Err i) gap = sym (list_any_none (λ s. eqb s a) ns (λ k d lt. ne_eqb (get_or ns k d) a (λ same. elim (cases_lt k i) [
      | inl below ↦ (let h = gap.1 k below in omega (arith, get_or_default ns k d 0 lt))
      | inr above ↦ (let h = gap.2 k above lt in omega (arith, get_or_default ns k d 0 lt))
    ])))

-- of two lists, the blocks that stay
pub staying : (own other kept after : List Block) (stays : List ℕ) → kept ≡ filter (λ b. list_any (λ s. eqb s b.address) stays) (own ++ other) → IsPermutation kept after → (c : Block) → Contains after c ↔ ((Contains own c ⊎ Contains other c) × Contains stays c.address)
staying own other kept after stays is moved c =
    let p : Block → Bool = λ (b : Block). list_any (λ s. eqb s b.address) stays in
    let P : List Block → Type 0 = λ xs. Contains xs c in (
      λ inside.
          let k = (Contains-filter p (own ++ other) c).0 (subst P is (Contains-permutation after kept c (IsPermutation-sym kept after moved) inside)) in
          (Contains-append_cases own other c k.0, (among-Contains stays c.address).0 k.1),
      λ (from, stays_there). Contains-permutation kept after c moved (subst P (sym is) ((Contains-filter p (own ++ other) c).1 (
        elim from [
          | inl here ↦ Contains-append_left own other c here
          | inr there ↦ Contains-append_right own other c there
        ],
        (among-Contains stays c.address).1 stays_there,
      ))),
    )

pub staying_apart : (own other kept : List Block) (stays : List ℕ) → kept ≡ filter (λ b. list_any (λ s. eqb s b.address) stays) (own ++ other) → IsRising own → IsRising other → ((c d : Block) → Contains own c → Contains other d → c.address ≢ d.address) → AreApart kept
staying_apart own other kept stays is ro rt apart =
    let p : Block → Bool = λ (b : Block). list_any (λ s. eqb s b.address) stays in
    subst AreApart (sym is) (AllPairs-filter (λ (b c : Block). b.address ≢ c.address) p (own ++ other) (AreApart-joined own other ro rt apart))
