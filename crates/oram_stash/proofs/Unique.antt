-- Two outcomes of an eviction of the same blocks are equal.
use Rattle.std.proofs.Common.{◌≡◌, ℕ, zero, suc, ◌+◌, ◌<◌, ◌≤◌, false, eqb, List, [], ◌∷◌, ◌++◌, length, get_or, ◌⊎◌, refl, sym, ap, subst, ◌∙◌, inl, inr, arith}
use mathlib.Core.Bool.{false≢true}
use Rattle.std.specs.List.{Contains}
use Rattle.std.proofs.lemmas.Bool.{cases_lt, cases_eq, eq-eqb, eqb-true}
use Rattle.std.proofs.lemmas.List.{get_or_default, get_or_past, ext_get_or, length_push}
use Rattle.std.proofs.lemmas.List.Elements.{All-contains, Contains-append_cases, Contains-append_left, Contains-append_right, Contains-push_cases}
use Rattle.std.proofs.lemmas.List.Quantifiers.{all_pairs_push}
use Rattle.std.proofs.lemmas.List.Sorted.{IsPermutation-sym, Contains-permutation}
use Rattle.oram_bucket.specs.declared.block.Block.{Block}
use Rattle.oram_bucket.specs.Cell.{IsRising}
use Rattle.oram_stash.specs.Eviction.{listed, all_listed, IsNearer, IsEviction, OneOutcome}
use Rattle.oram_stash.proofs.Fewest.{some_or_none, list_of_listed}
use Rattle.oram_stash.proofs.Tight.{Contains-all_listed}
use Rattle.oram_stash.proofs.SortedBlocks.{length-le, same_rising, AreApart, AreApart-permuted, AreApart-left, apart_parts, apart_lists, Contains-cases, Contains-first, Contains-later}

-- blocks of a rising list with the same address are equal
pub same_block : (xs : List Block) → IsRising xs → (b c : Block) → Contains xs b → Contains xs c → b.address ≡ c.address → b ≡ c
same_block xs rising b c (i, lt, is) (j, within, there) same = elim (cases_lt i j) as (λ _. b ≡ c) [
  | inl less ↦ absurd (let r = rising i j b less within in let e = ap (λ (d : Block). d.address) is in let f = ap (λ (d : Block). d.address) (get_or_default xs j b c within ∙ there) in omega arith)
  | inr more ↦ elim (cases_lt j i) as (λ _. b ≡ c) [
    | inl less ↦ absurd (let r = rising j i b less lt in let e = ap (λ (d : Block). d.address) is in let f = ap (λ (d : Block). d.address) (get_or_default xs j b c within ∙ there) in omega arith)
    | inr not_less ↦ let e : i ≡ j = omega arith in sym is ∙ ap (λ n. get_or xs n b) e ∙ get_or_default xs j b c within ∙ there
  ]
]

-- an element of xs is not in ys, or all are
some_outside : (xs ys : List Block) → ((b c : Block) → Contains xs b → Contains ys c → c.address ≡ b.address → c ≡ b) → ((b : Block) × Contains xs b × (Contains ys b → ⊥)) ⊎ ((b : Block) → Contains xs b → Contains ys b)
some_outside [] ys same = inr (λ b inside. absurd (let h = inside.1 in omega arith))
some_outside (x ∷ xs) ys same = elim (some_or_none (λ (c : Block). eqb c.address x.address) ys) [
  | inl found ↦ elim (some_outside xs ys (λ b c inside there. same b c (Contains-later x xs b inside) there)) [
    | inl outside ↦ inl (outside.0, Contains-later x xs outside.0 outside.1, outside.2)
    | inr all ↦ inr (λ b inside. elim (Contains-cases x xs b inside) [
      | inl is ↦ subst (Contains ys) (same x found.0 (Contains-first x xs) found.1 (eqb-true _ _ found.2) ∙ sym is) found.1
      | inr later ↦ all b later
    ])
  ]
  | inr none ↦ inl (x, Contains-first x xs, λ inside. false≢true (sym (All-contains (λ (c : Block). eqb c.address x.address ≡ false) ys x none inside) ∙ eq-eqb x.address x.address refl))
]

-- the place of a block in one of two outcomes
module _ (deep slots x : ℕ) (blocks : List Block) (rising : IsRising blocks) (lists : List (List Block)) (rest : List Block) (eviction : IsEviction deep slots x blocks lists rest) where
  apart : AreApart (all_listed lists ++ rest)
  apart = AreApart-permuted blocks _ rising eviction.placement.each_once

  listed_in : (l : ℕ) (b : Block) → Contains (listed lists l) b → Contains blocks b
  listed_in l b inside = Contains-permutation _ _ b (IsPermutation-sym _ _ eviction.placement.each_once) (Contains-append_left (all_listed lists) rest b (Contains-all_listed lists l b inside))

  left_in : (b : Block) → Contains rest b → Contains blocks b
  left_in b inside = Contains-permutation _ _ b (IsPermutation-sym _ _ eviction.placement.each_once) (Contains-append_right (all_listed lists) rest b inside)

  level_in_tree : (l : ℕ) (b : Block) → Contains (listed lists l) b → l ≤ deep
  level_in_tree l b inside = elim (cases_lt l (length lists)) as (λ _. l ≤ deep) [
    | inl lt ↦ omega (arith, eviction.placement.levels)
    | inr past ↦ absurd (let none = ap length (get_or_past lists l [] past) in let h = inside.1 in omega arith)
  ]

  one_level : (l k : ℕ) (b : Block) → Contains (listed lists l) b → Contains (listed lists k) b → l ≡ k
  one_level l k b here there = elim (cases_lt l k) as (λ _. l ≡ k) [
    | inl less ↦ absurd (apart_lists lists l k b b (AreApart-left (all_listed lists) rest apart) less here there refl)
    | inr more ↦ elim (cases_lt k l) as (λ _. l ≡ k) [
      | inl less ↦ absurd (apart_lists lists k l b b (AreApart-left (all_listed lists) rest apart) less there here refl)
      | inr not_less ↦ omega arith
    ]
  ]

  not_both : (l : ℕ) (b : Block) → Contains (listed lists l) b → Contains rest b → ⊥
  not_both l b here left = apart_parts (all_listed lists) rest b b apart (Contains-all_listed lists l b here) left refl

  -- a block is listed at a level, or left over
  place_of : (b : Block) → Contains blocks b → ((l : ℕ) × Contains (listed lists l) b) ⊎ Contains rest b
  place_of b inside = elim (Contains-append_cases (all_listed lists) rest b (Contains-permutation _ _ b eviction.placement.each_once inside)) [
    | inl at ↦ let found = list_of_listed lists b at in inl (found.0, found.2)
    | inr left ↦ inr left
  ]

-- one level, if the levels below it agree
module _ (deep slots x : ℕ) (blocks : List Block) (rising : IsRising blocks) (lists others : List (List Block)) (rest other : List Block) (one : IsEviction deep slots x blocks lists rest) (two : IsEviction deep slots x blocks others other) (l : ℕ) (below : (k : ℕ) → l < k → listed lists k ≡ listed others k) where
  -- a block of the level that isn't at that level in the other outcome is nearer the root there
  nearer_in_other : (b : Block) → Contains (listed lists l) b → (Contains (listed others l) b → ⊥) → IsNearer others other l b
  nearer_in_other b here absent = elim (place_of deep slots x blocks rising others other two b (listed_in deep slots x blocks rising lists rest one l b here)) [
    | inl at ↦ elim (cases_lt at.0 l) [
      | inl nearer ↦ inr (at.0, nearer, at.1)
      | inr not_nearer ↦ absurd (elim (cases_eq at.0 l) [
        | inl same ↦ absent (subst (λ n. Contains (listed others n) b) same at.1)
        | inr differs ↦
            let further : l < at.0 = omega arith in
            differs (one_level deep slots x blocks rising lists rest one at.0 l b (subst (λ (list : List Block). Contains list b) (sym (below at.0 further)) at.1) here)
      ])
    ]
    | inr left ↦ inl left
  ]

  blocks_one : (b c : Block) → Contains (listed lists l) b → Contains (listed others l) c → c.address ≡ b.address → c ≡ b
  blocks_one b c here there same = same_block blocks rising c b (listed_in deep slots x blocks rising others other two l c there) (listed_in deep slots x blocks rising lists rest one l b here) same

module _ (deep slots x : ℕ) (blocks : List Block) (rising : IsRising blocks) (lists others : List (List Block)) (rest other : List Block) (one : IsEviction deep slots x blocks lists rest) (two : IsEviction deep slots x blocks others other) (l : ℕ) (below : (k : ℕ) → l < k → listed lists k ≡ listed others k) where
  -- no block of the level is missing there in the other outcome
  none_absent : (b : Block) → Contains (listed lists l) b → (Contains (listed others l) b → ⊥) → ⊥
  none_absent b here absent =
      let in_tree = level_in_tree deep slots x blocks rising lists rest one l b here in
      let nearer = nearer_in_other deep slots x blocks rising lists others rest other one two l below b here absent in
      let meets = one.placement.on_path l b here in
      let full = two.greedy.full l b in_tree meets nearer in
      let least = two.greedy.least l b in_tree meets nearer in
      elim (some_outside (listed others l) (listed lists l) (blocks_one deep slots x blocks rising others lists other rest two one l (λ k lt. sym (below k lt)))) [
        | inl outside ↦
            let c = outside.0 in
            let c_nearer = nearer_in_other deep slots x blocks rising others lists other rest two one l (λ k lt. sym (below k lt)) c outside.1 outside.2 in
            let c_least = one.greedy.least l c in_tree (two.placement.on_path l c outside.1) c_nearer in
            let b_below = All-contains (λ (d : Block). d.address < c.address) (listed lists l) b c_least here in
            let c_below = All-contains (λ (d : Block). d.address < b.address) (listed others l) c least outside.1 in
            omega arith
        | inr all ↦
            let more = length-le (listed others l ++ b ∷ []) (listed lists l) (all_pairs_push (λ (d e : Block). d.address < e.address) (listed others l) b (two.greedy.rising l) (λ k d lt. least k d lt)) (one.greedy.rising l) (λ c inside. elim (Contains-push_cases (listed others l) b c inside) [ inl before ↦ all c before | inr is ↦ subst (Contains (listed lists l)) is here ]) in
            let n = length_push (listed others l) b in
            omega (arith, one.placement.within l)
      ]

  included : (b : Block) → Contains (listed lists l) b → Contains (listed others l) b
  included b here = elim (some_or_none (λ (c : Block). eqb c.address b.address) (listed others l)) [
    | inl found ↦ subst (Contains (listed others l)) (blocks_one deep slots x blocks rising lists others rest other one two l below b found.0 here found.1 (eqb-true _ _ found.2)) found.1
    | inr none ↦ absurd (none_absent b here (λ inside. false≢true (sym (All-contains (λ (c : Block). eqb c.address b.address ≡ false) (listed others l) b none inside) ∙ eq-eqb b.address b.address refl)))
  ]

module _ (deep slots x : ℕ) (blocks : List Block) (rising : IsRising blocks) (lists others : List (List Block)) (rest other : List Block) (one : IsEviction deep slots x blocks lists rest) (two : IsEviction deep slots x blocks others other) where
  same_level : (n l : ℕ) → deep + 1 ≤ l + n → listed lists l ≡ listed others l
  same_level zero l past = get_or_past lists l [] (omega (arith, one.placement.levels)) ∙ sym (get_or_past others l [] (omega (arith, two.placement.levels)))
  same_level (suc n) l past =
      let below : (k : ℕ) → l < k → listed lists k ≡ listed others k = λ k lt. same_level n k (omega arith) in
      same_rising _ _ (one.greedy.rising l) (two.greedy.rising l)
      (included deep slots x blocks rising lists others rest other one two l below)
      (included deep slots x blocks rising others lists other rest two one l (λ k lt. sym (below k lt)))

  same_lists : lists ≡ others
  same_lists = ext_get_or [] lists others (one.placement.levels ∙ sym two.placement.levels) (λ l lt. same_level (deep + 1) l (omega arith))

  left_in_other : (b : Block) → Contains rest b → Contains other b
  left_in_other b left = elim (place_of deep slots x blocks rising others other two b (left_in deep slots x blocks rising lists rest one b left)) [
    | inl at ↦ absurd (not_both deep slots x blocks rising lists rest one at.0 b (subst (λ (all : List (List Block)). Contains (listed all at.0) b) (sym same_lists) at.1) left)
    | inr there ↦ there
  ]

pub one_outcome : OneOutcome
one_outcome deep slots x blocks lists others rest other rising one two = (
  same_lists deep slots x blocks rising lists others rest other one two,
  same_rising rest other one.rising two.rising (left_in_other deep slots x blocks rising lists others rest other one two) (left_in_other deep slots x blocks rising others lists other rest two one),
)
