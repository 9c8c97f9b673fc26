-- No other placement leaves fewer blocks in the rest than a greedy one.
use Rattle.std.proofs.Common.{◌≡◌, ℕ, zero, suc, ◌+◌, ◌-◌, ◌*◌, ◌/◌, ◌^◌, ◌<◌, ◌≤◌, Bool, true, false, cond, not, eqb, List, [], ◌∷◌, ◌++◌, length, get_or, take, drop, ◌⊎◌, refl, sym, ap, subst, ◌∙◌, inl, inr, arith}
use mathlib.Core.Bool.{false≢true}
use Rattle.std.specs.List.{count_by, sum_by, All, Contains}
use Rattle.std.proofs.lemmas.Bool.{cases_lt, cases_eq, ne_eqb, eq-eqb, eqb-true}
use Rattle.std.proofs.lemmas.List.{take-append-drop, get_or-take, get_or-drop, drop_all, get_or_default, length-take, length-drop, length-take-le, length-append}
use Rattle.std.proofs.lemmas.List.Concat.{flat_map-append}
use Rattle.std.proofs.lemmas.List.Sums.{sum_by-cons, sum_by-append, count_by-le-length}
use Rattle.std.proofs.lemmas.List.Elements.{All-nil, All-same, All-cons, All-head, All-tail, All-append, All-contains, All-weaker, Contains-append_cases, Contains-append_right, Contains-get_or}
use Rattle.std.proofs.lemmas.List.Sorted.{sum_by-IsPermutation}
use Rattle.oram_bucket.specs.declared.block.Block.{Block}
use Rattle.oram_geometry.specs.Path.{MeetsAt}
use Rattle.oram_geometry.proofs.Meet.{MeetsAt-nearer}
use Rattle.oram_stash.specs.Eviction.{listed, all_listed, IsPlacement, IsNearer, IsGreedy, IsEviction, LeavesFewest}

-- a test that all elements pass counts them all; a test that none passes counts none
pub count_all : {X : Type 0} (p : X → Bool) (xs : List X) → All (λ x. p x ≡ true) xs → count_by p xs ≡ length xs
count_all p [] all = refl
count_all p (x ∷ xs) all =
    let ih = count_all p xs (All-tail (λ x. p x ≡ true) x xs all) in
    rw (sum_by-cons (λ y. cond (p y) 1 0) x xs, All-head (λ x. p x ≡ true) x xs all) (omega arith)

pub count_none : {X : Type 0} (p : X → Bool) (xs : List X) → All (λ x. p x ≡ false) xs → count_by p xs ≡ 0
count_none p [] all = refl
count_none p (x ∷ xs) all =
    let ih = count_none p xs (All-tail (λ x. p x ≡ false) x xs all) in
    rw (sum_by-cons (λ y. cond (p y) 1 0) x xs, All-head (λ x. p x ≡ false) x xs all) (omega arith)

-- some element passes, or none does
pub some_or_none : {X : Type 0} (p : X → Bool) (xs : List X) → ((x : X) × Contains xs x × (p x ≡ true)) ⊎ All (λ x. p x ≡ false) xs
some_or_none {X = X} p [] = inr (All-nil (λ x. p x ≡ false))
some_or_none {X = X} p (x ∷ xs) = go (p x) refl (some_or_none p xs)
  where
    go : (b : Bool) → p x ≡ b → ((y : X) × Contains xs y × (p y ≡ true)) ⊎ All (λ y. p y ≡ false) xs → ((y : X) × Contains (x ∷ xs) y × (p y ≡ true)) ⊎ All (λ y. p y ≡ false) (x ∷ xs)
    go true here rest = inl (x, (0, omega arith, refl), here)
    go false here (inl found) = inl (found.0, Contains-append_right (x ∷ []) xs found.0 found.1, found.2)
    go false here (inr none) = inr (All-cons (λ y. p y ≡ false) x xs here none)

-- lists of one length
pub length-all_listed : (slots : ℕ) (lists : List (List Block)) → All (λ list. length list ≡ slots) lists → length (all_listed lists) ≡ length lists * slots
length-all_listed slots [] full = omega arith
length-all_listed slots (list ∷ lists) full =
    let here : length list ≡ slots = full 0 list (omega arith) in
    let ih = length-all_listed slots lists (All-tail (λ (l : List Block). length l ≡ slots) list lists full) in
    rw (length-append, here, ih) (grind arith)

pub length-all_listed-le : (slots : ℕ) (lists : List (List Block)) → All (λ list. length list ≤ slots) lists → length (all_listed lists) ≤ length lists * slots
length-all_listed-le slots [] within = omega arith
length-all_listed-le slots (list ∷ lists) within =
    let here : length list ≤ slots = within 0 list (omega arith) in
    let ih = length-all_listed-le slots lists (All-tail (λ (l : List Block). length l ≤ slots) list lists within) in
    rw length-append (let e : suc (length lists) * slots ≡ slots + length lists * slots = grind arith in omega arith)

-- a property of each list's blocks is one of all listed blocks
pub All-all_listed : (P : Block → Type 0) (lists : List (List Block)) → All (All P) lists → All P (all_listed lists)
All-all_listed P [] each = All-nil P
All-all_listed P (list ∷ lists) each = All-append P list (all_listed lists) (each 0 list (omega arith)) (All-all_listed P lists (All-tail (All P) list lists each))

-- a listed block is in some list
pub list_of_listed : (lists : List (List Block)) (b : Block) → Contains (all_listed lists) b → (l : ℕ) × (l < length lists) × Contains (listed lists l) b
list_of_listed lists b inside = All-contains (λ c. (l : ℕ) × (l < length lists) × Contains (listed lists l) c) (all_listed lists) b (All-all_listed (λ c. (l : ℕ) × (l < length lists) × Contains (listed lists l) c) lists (λ l d lt j c within. (l, lt, rw (get_or_default lists l [] d lt) (Contains-get_or (get_or lists l d) j c within)))) inside

-- the levels above the cut are full, and no block there or in the rest has a path that meets at the cut or below it
pub record IsCut (deep slots x : ℕ) (lists : List (List Block)) (rest : List Block) (cut : ℕ) : Type 0 where
  pub in_tree : cut ≤ deep + 1
  pub full : (l : ℕ) → l < cut → length (listed lists l) ≡ slots
  pub above : (k : ℕ) → cut ≤ k → k ≤ deep → All (λ b. MeetsAt deep x b.leaf k → ⊥) (all_listed (take cut lists) ++ rest)

-- whether the path of a block meets that of leaf x at a level
abbrev pub meets_test : ℕ → ℕ → ℕ → Block → Bool
meets_test deep x k b = eqb (x / 2 ^ (deep - k)) (b.leaf / 2 ^ (deep - k))

apart_from_test : (deep x k : ℕ) (b : Block) → meets_test deep x k b ≡ false → MeetsAt deep x b.leaf k → ⊥
apart_from_test deep x k b fails meets = false≢true (sym fails ∙ eq-eqb _ _ meets)

module _ (deep slots x : ℕ) (lists : List (List Block)) (rest : List Block) (greedy : IsGreedy deep slots x lists rest) where
  -- a block listed above the cut or left over is nearer the root than the cut
  nearer_than_cut : (cut : ℕ) (b : Block) → Contains (all_listed (take cut lists) ++ rest) b → IsNearer lists rest cut b
  nearer_than_cut cut b inside = elim (Contains-append_cases (all_listed (take cut lists)) rest b inside) [
    | inl above ↦
        let at = list_of_listed (take cut lists) b above in
        let lt : at.0 < cut = (let n = length-take cut lists in let h = at.1 in omega arith) in
        inr (at.0, lt, subst (λ (list : List Block). Contains list b) (get_or-take cut lists at.0 [] lt) at.2)
    | inr left ↦ inl left
  ]

  -- from a level above which all levels are full, a cut can be found
  cut_from : (fuel cut : ℕ) → cut + fuel ≡ deep + 1 → ((l : ℕ) → l < cut → length (listed lists l) ≡ slots) → (c : ℕ) × IsCut deep slots x lists rest c
  cut_from zero cut end full = (cut, record { in_tree = omega arith; full = full; above = λ k le in_tree. absurd (omega arith) })
  cut_from (suc fuel) cut end full = elim (some_or_none (meets_test deep x cut) (all_listed (take cut lists) ++ rest)) [
    | inl found ↦
        let here = greedy.full cut found.0 (omega arith) (eqb-true _ _ found.2) (nearer_than_cut cut found.0 found.1) in
        cut_from fuel (cut + 1) (omega arith) (λ l lt. elim (cases_eq l cut) [ inl same ↦ rw same here | inr ne ↦ full l (omega arith) ])
    | inr none ↦ (
      cut,
      record {
        in_tree = omega arith;
        full = full;
        above = λ k le in_tree. All-weaker (λ b. meets_test deep x cut b ≡ false) (λ b. MeetsAt deep x b.leaf k → ⊥) (λ b fails meets. apart_from_test deep x cut b fails (MeetsAt-nearer deep x b.leaf cut k le in_tree meets)) _ none;
      },
    )
  ]

  pub some_cut : (c : ℕ) × IsCut deep slots x lists rest c
  some_cut = cut_from (deep + 1) 0 (omega arith) (λ l lt. absurd (omega arith))

-- a count of all blocks, cut between two levels
count_split : (q : Block → Bool) (lists : List (List Block)) (rest : List Block) (cut : ℕ) → count_by q (all_listed lists ++ rest) ≡ (count_by q (all_listed (take cut lists)) + count_by q (all_listed (drop cut lists))) + count_by q rest
count_split q lists rest cut =
    let f = λ (b : Block). cond (q b) 1 0 in
    let parts : all_listed lists ≡ all_listed (take cut lists) ++ all_listed (drop cut lists) = ap all_listed (sym (take-append-drop cut lists)) ∙ flat_map-append (λ (list : List Block). list) (take cut lists) (drop cut lists) in
    sum_by-append f (all_listed lists) rest ∙ ap (λ n. n + sum_by f rest) (ap (sum_by f) parts ∙ sum_by-append f (all_listed (take cut lists)) (all_listed (drop cut lists)))

module _ (deep slots x cut : ℕ) (blocks : List Block) (lists other_lists : List (List Block)) (rest other : List Block) (in_tree : cut ≤ deep + 1) (here : IsPlacement deep slots x blocks lists rest) (full : (l : ℕ) → l < cut → length (listed lists l) ≡ slots) (there : IsPlacement deep slots x blocks other_lists other) where
  -- by a test that all blocks above the cut and of the rest pass, and none that the other placement has below the cut
  fewest_by : (q : Block → Bool) → All (λ b. q b ≡ true) (all_listed (take cut lists) ++ rest) → All (λ b. q b ≡ false) (all_listed (drop cut other_lists)) → length rest ≤ length other
  fewest_by q passing failing =
      let count_here : count_by q (all_listed lists ++ rest) ≡ count_by q blocks = sum_by-IsPermutation (λ (b : Block). cond (q b) 1 0) blocks (all_listed lists ++ rest) here.each_once in
      let count_there : count_by q (all_listed other_lists ++ other) ≡ count_by q blocks = sum_by-IsPermutation (λ (b : Block). cond (q b) 1 0) blocks (all_listed other_lists ++ other) there.each_once in
      let split_here = count_split q lists rest cut in
      let split_there = count_split q other_lists other cut in
      let all_pass = count_all q (all_listed (take cut lists) ++ rest) passing in
      let parts_pass : count_by q (all_listed (take cut lists) ++ rest) ≡ count_by q (all_listed (take cut lists)) + count_by q rest = sum_by-append (λ (b : Block). cond (q b) 1 0) (all_listed (take cut lists)) rest in
      let long = length-append (all_listed (take cut lists)) rest in
      let long_take : length (take cut lists) ≡ cut = length-take-le cut lists (omega (arith, here.levels)) in
      let long_other : length (take cut other_lists) ≡ cut = length-take-le cut other_lists (omega (arith, there.levels)) in
      let full_take = rw long_take at (length-all_listed slots (take cut lists) (λ k d lt. ap length (get_or-take cut lists k d (omega arith) ∙ get_or_default lists k d [] (omega (arith, here.levels))) ∙ full k (omega arith))) in
      let within_take = rw long_other at (length-all_listed-le slots (take cut other_lists) (λ k d lt. subst (λ (list : List Block). length list ≤ slots) (sym (get_or-take cut other_lists k d (omega arith) ∙ get_or_default other_lists k d [] (omega (arith, there.levels)))) (there.within k))) in
      let at_most = count_by-le-length q (all_listed (take cut other_lists)) in
      let none_below = count_none q (all_listed (drop cut other_lists)) failing in
      let rest_at_most = count_by-le-length q other in
      omega arith

-- a cut shows that no other placement leaves fewer blocks in the rest
pub fewest_from_cut : (deep slots x : ℕ) (blocks : List Block) (lists : List (List Block)) (rest : List Block) (cut : ℕ) → IsPlacement deep slots x blocks lists rest → IsCut deep slots x lists rest cut → LeavesFewest deep slots x blocks rest
fewest_from_cut deep slots x blocks lists rest cut here is_cut other_lists other there = elim (cases_lt deep cut) as (λ _. length rest ≤ length other) [
  | inl all ↦ fewest_by deep slots x cut blocks lists other_lists rest other is_cut.in_tree here is_cut.full there (λ _. true) (λ k d lt. refl) (All-same (λ b. true ≡ false) _ [] (ap all_listed (drop_all cut other_lists (omega (arith, there.levels)))) (All-nil (λ b. true ≡ false)))
  | inr some ↦ fewest_by deep slots x cut blocks lists other_lists rest other is_cut.in_tree here is_cut.full there (λ b. not (meets_test deep x cut b))
      (All-weaker (λ b. MeetsAt deep x b.leaf cut → ⊥) (λ b. not (meets_test deep x cut b) ≡ true) (λ b apart. rw (ne_eqb _ _ apart) refl) _ (is_cut.above cut (omega arith) some))
      (All-all_listed (λ b. not (meets_test deep x cut b) ≡ false) (drop cut other_lists) (λ k d lt j e within.
      let n = length-drop cut other_lists in
      let in_other : cut + k < length other_lists = omega arith in
      let list_is : get_or (drop cut other_lists) k d ≡ listed other_lists (cut + k) = get_or-drop cut other_lists k d ∙ get_or_default other_lists (cut + k) d [] in_other in
      let b = get_or (get_or (drop cut other_lists) k d) j e in
      let meets = there.on_path (cut + k) b (subst (λ (list : List Block). Contains list b) list_is (Contains-get_or (get_or (drop cut other_lists) k d) j e within)) in
      let at_cut = MeetsAt-nearer deep x b.leaf cut (cut + k) (omega arith) (omega (arith, there.levels)) meets in
      rw (eq-eqb _ _ at_cut) refl))
]

-- an eviction leaves the fewest blocks in the rest
pub fewest : (deep slots x : ℕ) (blocks : List Block) (lists : List (List Block)) (rest : List Block) → IsEviction deep slots x blocks lists rest → LeavesFewest deep slots x blocks rest
fewest deep slots x blocks lists rest eviction =
    let cut = some_cut deep slots x lists rest eviction.greedy in
    fewest_from_cut deep slots x blocks lists rest cut.0 eviction.placement cut.1
