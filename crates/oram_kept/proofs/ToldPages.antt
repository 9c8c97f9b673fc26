-- The indexes of the pages that have bytes of told records.
use Rattle.std.proofs.Common.{◌≡◌, ◌⊎◌, inl, inr, ⊎_elim, ℕ, zero, suc, ◌+◌, ◌-◌, ◌*◌, ◌<◌, ◌≤◌, List, [], ◌∷◌, ◌++◌, length, get_or, sym, ap, ◌∙◌, subst, arith, length-append}
use Rattle.std.specs.Prelude.{All}
use Rattle.std.specs.List.{Contains}
use Rattle.std.specs.List.Sorted.{IsNonDecreasing, IsPermutation, IsStrictlyIncreasing}
use Rattle.std.proofs.Math.ListN.{get_or-append}
use Rattle.std.proofs.Math.Nat.{mul-le-mul_left}
use Rattle.std.proofs.Math.Seq.{get_or-append_seam}
use Rattle.std.proofs.lemmas.Bool.{cases_eq, cases_lt}
use Rattle.std.proofs.lemmas.Grind.{get_or_default_zero}
use Rattle.std.proofs.lemmas.List.Elements.{All-append, Contains-append_left, Contains-get_or, Contains-push, Contains-push_cases}
use Rattle.std.proofs.lemmas.List.Sorted.{Contains-permutation, IsPermutation-sym}
use Rattle.oram_kept.specs.Pages.{AddsRange, AreToldPages, IsPageOf, IsTold}
use Rattle.oram_kept.specs.declared.text.ChangedRecords.{ChangedRecords}
use Rattle.oram_kept.specs.declared.text.ChangedRecords.TheVariants.{Any}
use Rattle.oram_kept.proofs.Lists.{all_one}

-- rising numbers rise by at least one each
climbs : (xs : List ℕ) → IsStrictlyIncreasing xs → (k n : ℕ) → k + n < length xs → get_or xs k 0 + n ≤ get_or xs (k + n) 0
climbs xs rise k zero within = let e : k + 0 ≡ k = omega arith in omega (arith, ap (λ (i : ℕ). get_or xs i 0) e)
climbs xs rise k (suc n) within =
    let e : k + suc n ≡ k + n + 1 = omega arith in
    omega (arith, climbs xs rise k n (omega (arith, within)), rise (k + n) (omega (arith, within)), ap (λ (i : ℕ). get_or xs i 0) e)

pub below_next : (xs : List ℕ) (last : ℕ) → IsStrictlyIncreasing xs → last ≡ get_or xs (length xs - 1) last → All (λ j. j < last + 1) xs
below_next xs last rise is k d within =
    let n : ℕ = length xs - 1 - k in
    let e : k + n ≡ length xs - 1 = omega (arith, within) in
    omega (
      arith,
      get_or_default_zero xs k d within,
      climbs xs rise k n (omega (arith, within)),
      ap (λ (i : ℕ). get_or xs i 0) e,
      get_or_default_zero xs (length xs - 1) last (omega (arith, within)),
      is,
    )

-- rising indexes below a number are no more than that
pub few_rise : (xs : List ℕ) (n : ℕ) → IsStrictlyIncreasing xs → ((j : ℕ) → Contains xs j → j < n) → length xs ≤ n
few_rise [] n rise below = omega arith
few_rise (x ∷ xs) n rise below =
    let last : ℕ = get_or (x ∷ xs) (length xs) 0 in
    omega (arith, climbs (x ∷ xs) rise 0 (length xs) (omega arith), below last (Contains-get_or (x ∷ xs) (length xs) 0 (omega arith)), ap (λ (i : ℕ). get_or (x ∷ xs) i 0) (let e : 0 + length xs ≡ length xs = omega arith in e))

-- a greater number is put behind rising ones
rising_more : (xs : List ℕ) (n : ℕ) → IsStrictlyIncreasing xs → All (λ j. j < n) xs → IsStrictlyIncreasing (xs ++ n ∷ [])
rising_more xs n rise below k within = elim (cases_lt (k + 1) (length xs)) [
  | inl inside ↦ omega (arith, get_or-append xs (n ∷ []) 0 k (omega (arith, inside)), get_or-append xs (n ∷ []) 0 (k + 1) inside, rise k inside)
  | inr behind ↦
      let e : k + 1 ≡ length xs = omega (arith, behind, within, length-append xs (n ∷ [])) in
      omega (
        arith,
        get_or-append xs (n ∷ []) 0 k (omega (arith, e)),
        below k 0 (omega (arith, e)),
        get_or-append_seam xs n [] 0,
        ap (λ (i : ℕ). get_or (xs ++ n ∷ []) i 0) e,
      )
]

-- The indexes from `first` on and before `page` are put behind the old ones, and none from `end` on.
pub record HasAdded (first end page : ℕ) (old xs : List ℕ) : Type 0 where
  pub rising : IsStrictlyIncreasing xs
  pub below : All (λ j. j < page) xs
  pub kept : (j : ℕ) → Contains old j → Contains xs j
  pub only : (j : ℕ) → Contains xs j → Contains old j ⊎ ((first ≤ j) × (j < end))
  pub all : (j : ℕ) → first ≤ j → j < page → Contains xs j

pub none_added : (first end next : ℕ) (old : List ℕ) → IsStrictlyIncreasing old → All (λ j. j < next) old → next ≤ first → HasAdded first end first old old
none_added first end next old rise below above = record {
  rising = rise;
  below = λ k d within. omega (arith, below k d within, above);
  kept = λ j is. is;
  only = λ j is. inl is;
  all = λ j from to. absurd (omega (arith, from, to));
}

pub one_added : (first end page : ℕ) (old xs ys : List ℕ) → HasAdded first end page old xs → first ≤ page → page < end → ys ≡ xs ++ page ∷ [] → HasAdded first end (page + 1) old ys
one_added first end page old xs ys had from to grown =
    let more = λ (j : ℕ) (is : Contains xs j). subst (λ (l : List ℕ). Contains l j) (sym grown) (Contains-append_left xs (page ∷ []) j is) in
    record {
      rising = subst IsStrictlyIncreasing (sym grown) (rising_more xs page had.rising had.below);
      below = subst (All (λ j. j < page + 1)) (sym grown)
          (All-append (λ j. j < page + 1) xs (page ∷ []) (λ k d within. omega (arith, had.below k d within)) (all_one (λ j. j < page + 1) page (omega arith)));
      kept = λ j is. more j (had.kept j is);
      only = λ j is. elim (Contains-push_cases xs page j (subst (λ (l : List ℕ). Contains l j) grown is)) [
        | inl before ↦ had.only j before
        | inr last ↦ inr (omega (arith, last, from), omega (arith, last, to))
      ];
      all = λ j low high. elim (cases_eq j page) [
        | inl last ↦ subst (λ (i : ℕ). Contains ys i) (sym last) (subst (λ (l : List ℕ). Contains l page) (sym grown) (Contains-push xs page))
        | inr other ↦ more j (had.all j low (omega (arith, high, other)))
      ];
    }

-- the range is added once its end is reached
pub range_added : (first from end next page : ℕ) (old xs : List ℕ) → HasAdded from end page old xs → end ≤ page → first ≤ from → ((j : ℕ) → first ≤ j → j < from → j < next)
    → ((j : ℕ) → j < next → (last : ℕ) × Contains old last × (j ≤ last)) → AddsRange first end old xs
range_added first from end next page old xs had ended before between least = record {
  rising = had.rising;
  kept = had.kept;
  only = λ j is. ⊎_elim (λ was. inl was) (λ in_range. inr (omega (arith, in_range.0, before), in_range.1)) (had.only j is);
  all = λ j low high. elim (cases_lt j from) [
    | inl below ↦ inr (least j (between j low below))
    | inr above ↦ inl (had.all j (omega (arith, above)) (omega (arith, high, ended)))
  ];
}

-- These are the pages that have bytes of one of the first `at` of these records.
pub record Covers (len count : ℕ) (records : List ℕ) (at : ℕ) (pages : List ℕ) : Type 0 where
  pub rising : IsStrictlyIncreasing pages
  pub only : (j : ℕ) → Contains pages j → (j < count) × ((k : ℕ) × (k < at) × (k < length records) × IsPageOf len (get_or records k 0) j)
  pub all : (k j : ℕ) → k < at → j < count → IsPageOf len (get_or records k 0) j → Contains pages j

pub none_covered : (len count : ℕ) (records pages : List ℕ) → pages ≡ [] → Covers len count records 0 pages
none_covered len count records pages none = subst (Covers len count records 0) (sym none) (record {
  rising = λ k within. absurd (omega (arith, within));
  only = λ j is. absurd (omega (arith, is.1));
  all = λ k j below. absurd (omega (arith, below));
})

-- a page between two that have bytes of an earlier record has bytes of it, too
page_between : (len early late j last : ℕ) → early ≤ late → j ≤ last → IsPageOf len late j → IsPageOf len early last → IsPageOf len early j
page_between len early late j last order before on_late on_early =
    let least : len * early ≤ len * late = mul-le-mul_left len order in
    record { from = omega (arith, least, on_late.from); to = omega (arith, before, on_early.to) }

module _ (len count : ℕ) (records : List ℕ) (at first end : ℕ) (old new : List ℕ) (order : IsNonDecreasing records) (within : at < length records) (adds : AddsRange first end old new)
    (had : Covers len count records at old) (small : end ≤ count)
    (inside : (j : ℕ) → first ≤ j → j < end → IsPageOf len (get_or records at 0) j)
    (each : (j : ℕ) → j < count → IsPageOf len (get_or records at 0) j → (first ≤ j) × (j < end)) where
  early : (j : ℕ) → j < count → IsPageOf len (get_or records at 0) j → (last : ℕ) × Contains old last × (j ≤ last) → Contains new j
  early j fits is found =
      let was = had.only found.0 found.1 in
      let k : ℕ = was.1.0 in
      adds.kept j (had.all k j was.1.1 fits (page_between len (get_or records k 0) (get_or records at 0) j found.0 (order k at 0 (omega (arith, was.1.1)) within) found.2 is was.1.3))

  pub one_covered : Covers len count records (at + 1) new
  one_covered = record {
    rising = adds.rising;
    only = λ j is. elim (adds.only j is) [
      | inl was ↦ let had_it = had.only j was in (had_it.0, (had_it.1.0, omega (arith, had_it.1.1), had_it.1.2, had_it.1.3))
      | inr range ↦ (omega (arith, range.1, small), (at, omega arith, within, inside j range.0 range.1))
    ];
    all = λ k j below fits is. elim (cases_eq k at) [
      | inl last ↦
          let on = subst (λ (i : ℕ). IsPageOf len (get_or records i 0) j) last is in
          let range = each j fits on in
          ⊎_elim (λ there. there) (λ found. early j fits on found) (adds.all j range.0 range.1)
      | inr other ↦ adds.kept j (had.all k j (omega (arith, below, other)) fits is)
    ];
  }

-- the pages of all records, whatever the order of their indexes
pub all_covered : (changes : ChangedRecords) (len count : ℕ) (told records : List ℕ) (at : ℕ) (pages : List ℕ) → IsPermutation told records → length records ≤ at → Covers len count records at pages
    → ((j i : ℕ) → Contains told i → IsPageOf len i j → IsTold changes j) → ((j : ℕ) → IsTold changes j → (i : ℕ) × Contains told i × IsPageOf len i j) → AreToldPages changes count pages
all_covered changes len count told records at pages same whole had is_told of_one = record {
  rising = had.rising;
  told = λ j is.
      let one = had.only j is in
      let i : ℕ = get_or records one.1.0 0 in
      (one.0, is_told j i (Contains-permutation records told i (IsPermutation-sym told records same) (Contains-get_or records one.1.0 0 one.1.2)) one.1.3);
  all = λ j fits is.
      let one = of_one j is in
      let k = Contains-permutation told records one.0 same one.1 in
      had.all k.0 j (omega (arith, whole, k.1)) fits
      (subst (λ (i : ℕ). IsPageOf len i j) (sym k.2 ∙ get_or_default_zero records k.0 one.0 k.1) one.2);
}

-- any page may have changed
pub any_covered : (count : ℕ) (old pages : List ℕ) → old ≡ [] → AddsRange 0 count old pages → AreToldPages Any count pages
any_covered count old pages none adds = record {
  rising = adds.rising;
  told = λ j is. ⊎_elim (λ was. absurd (nothing j was)) (λ range. (range.1, tt)) (adds.only j is);
  all = λ j fits is. ⊎_elim (λ there. there) (λ found. absurd (nothing found.0 found.1)) (adds.all j (omega arith) fits);
}
  where
    nothing : (j : ℕ) → Contains old j → ⊥
    nothing j is = omega (arith, is.1, ap (λ (l : List ℕ). length l) none)
