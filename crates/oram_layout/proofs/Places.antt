-- Where cells are: after the header and before the next tree's, and no two of them share a byte.
use Rattle.std.proofs.Common.{◌%◌, ◌/◌, ◌≡◌, ◌≢◌, ◌⊎◌, inl, inr, ℕ, zero, suc, ◌+◌, ◌*◌, ◌<◌, ◌≤◌, [], ◌∷◌, ◌++◌, length, take, Option, Some, None, refl, sym, ◌∙◌, ap, subst, arith, max, nat_le, if◌then◌else◌}
use Rattle.std.proofs.Math.Nat.{add-mul, div-div-eq-div-mul, mul-le-mul_right, mul_assoc, mul_comm}
use Rattle.std.proofs.lemmas.Bool.{cases_eq, cases_order}
use Rattle.std.proofs.lemmas.List.{take_more}
use Rattle.std.proofs.lemmas.Bool.Decides.{nat_tests}
use Rattle.oram_layout.specs.Laws.{HasNode, MarkSharesBlock}
use Rattle.oram_layout.specs.Limits.{cell_len, nodes_of}
use Rattle.oram_layout.specs.Trees.{AreApart, Trees, cell_at, end_of, next_of, sizes_of, tree_at}
use Rattle.oram_layout.specs.declared.trees.Tree.{Tree}

abbrev pub len_of : Tree → ℕ
len_of tree = cell_len tree.shape.record_len

-- a cell has room for the mark and the record
pub cell_fits : (record_len : ℕ) → record_len + 1 ≤ cell_len record_len
cell_fits record_len = omega arith

rows_rise : (a b len : ℕ) → a < b → a * len + len ≤ b * len
rows_rise a b len h =
    let most : (a + 1) * len ≤ b * len = mul-le-mul_right len (omega arith) in
    omega (arith, add-mul a 1 len)

pub cells_rise : (tree : Tree) (a b : ℕ) → a < b → cell_at tree a + len_of tree ≤ cell_at tree b
cells_rise tree a b h = omega (arith, rows_rise a b (len_of tree) h)

pub cell_from : (tree : Tree) (node : ℕ) → tree.base ≤ cell_at tree node
cell_from tree node = omega arith

even_more : (base a b : ℕ) → base % 2 ≡ 0 → (base + a * (2 * b)) % 2 ≡ 0
even_more base a b even =
    let twice : a * (2 * b) ≡ 2 * (a * b) = sym (mul_assoc a 2 b) ∙ ap (λ (k : ℕ). k * b) (mul_comm a 2) ∙ mul_assoc 2 a b in
    omega (arith, twice, even)

pub cell_even : (tree : Tree) (node : ℕ) → tree.base % 2 ≡ 0 → cell_at tree node % 2 ≡ 0
cell_even tree node even = even_more tree.base node ((tree.shape.record_len + 2) / 2) even

-- the larger of two places
larger : (a b : ℕ) → (a ≤ (if nat_le a b then b else a)) × (b ≤ (if nat_le a b then b else a))
larger a b = (grind (arith, nat_tests), grind (arith, nat_tests))

larger_most : (a b most : ℕ) → a ≤ most → b ≤ most → (if nat_le a b then b else a) ≤ most
larger_most a b most ha hb = grind (arith, nat_tests)

pub larger_is : (m a b a' b' : ℕ) → m ≡ max a b → a ≡ a' → b ≡ b' → m ≡ (if nat_le a' b' then b' else a')
larger_is m a b a' b' e f g = grind (arith, nat_tests)

pub end_before_next : (trees : Trees) (n : ℕ) (tree : Tree) → tree_at trees n ≡ Some tree → end_of tree ≤ next_of trees
end_before_next [] n tree is = absurd cc
end_before_next (None ∷ trees) zero tree is = absurd cc
end_before_next (None ∷ trees) (suc n) tree is = end_before_next trees n tree is
end_before_next (Some first ∷ trees) zero tree is =
    let same : first ≡ tree = cc in
    subst (λ (t : Tree). end_of t ≤ next_of (Some first ∷ trees)) same (larger (next_of trees) (end_of first)).1
end_before_next (Some first ∷ trees) (suc n) tree is =
    let rest = end_before_next trees n tree is in
    omega (arith, rest, (larger (next_of trees) (end_of first)).0)

pub next_behind_header : (trees : Trees) → 8192 ≤ next_of trees
next_behind_header [] = omega arith
next_behind_header (None ∷ trees) = next_behind_header trees
next_behind_header (Some first ∷ trees) = omega (arith, next_behind_header trees, (larger (next_of trees) (end_of first)).0)

larger_even : (a b : ℕ) → a % 2 ≡ 0 → b % 2 ≡ 0 → (if nat_le a b then b else a) % 2 ≡ 0
larger_even a b ha hb = grind (arith, nat_tests)

pub next_even : (trees : Trees) → ((n : ℕ) (tree : Tree) → tree_at trees n ≡ Some tree → tree.base % 2 ≡ 0) → next_of trees % 2 ≡ 0
next_even [] even = refl
next_even (None ∷ trees) even = next_even trees (λ n tree is. even (suc n) tree is)
next_even (Some first ∷ trees) even =
    larger_even (next_of trees) (end_of first) (next_even trees (λ n tree is. even (suc n) tree is)) (cell_even first (nodes_of (sizes_of first.shape)) (even zero first refl))

-- the next tree begins no later than a place by which all trees have ended
pub next_at_most : (trees : Trees) (most : ℕ) → 8192 ≤ most → ((n : ℕ) (tree : Tree) → tree_at trees n ≡ Some tree → end_of tree ≤ most) → next_of trees ≤ most
next_at_most [] most low each = low
next_at_most (None ∷ trees) most low each = next_at_most trees most low (λ n tree is. each (suc n) tree is)
next_at_most (Some first ∷ trees) most low each =
    larger_most (next_of trees) (end_of first) most (next_at_most trees most low (λ n tree is. each (suc n) tree is)) (each zero first refl)

-- where the next tree begins if there is one more tree
abbrev pub next_with : Option Tree → ℕ → ℕ
next_with None next = next
next_with (Some tree) next = if nat_le next (end_of tree) then end_of tree else next

turned : (next a b : ℕ)
    → (if nat_le (if nat_le next a then a else next) b then b else (if nat_le next a then a else next)) ≡ (if nat_le (if nat_le next b then b else next) a then a else (if nat_le next b then b else next))
turned next a b = grind (arith, nat_tests)

next_of-push : (trees : Trees) (found : Option Tree) → next_of (trees ++ found ∷ []) ≡ next_with found (next_of trees)
next_of-push [] None = refl
next_of-push [] (Some tree) = refl
next_of-push (None ∷ trees) found = next_of-push trees found
next_of-push (Some first ∷ trees) None = ap (λ (n : ℕ). next_with (Some first) n) (next_of-push trees None)
next_of-push (Some first ∷ trees) (Some tree) = ap (λ (n : ℕ). next_with (Some first) n) (next_of-push trees (Some tree)) ∙ turned (next_of trees) (end_of tree) (end_of first)

pub next_of_more : (trees : Trees) (i : ℕ) (found : Option Tree) → i < length trees → tree_at trees i ≡ found → next_of (take (i + 1) trees) ≡ next_with found (next_of (take i trees))
next_of_more trees i found h is = ap next_of (take_more trees i None h) ∙ next_of-push (take i trees) (tree_at trees i) ∙ ap (λ (f : Option Tree). next_with f (next_of (take i trees))) is

module _ (trees : Trees) (apart : AreApart trees) where
  pub cell_behind_header : (n : ℕ) (tree : Tree) (node : ℕ) → HasNode trees n tree node → 8192 ≤ cell_at tree node
  cell_behind_header n tree node has = omega (arith, apart.from n tree has.is_there, cell_from tree node)

  pub cell_before_next : (n : ℕ) (tree : Tree) (node : ℕ) → HasNode trees n tree node → cell_at tree node + len_of tree ≤ next_of trees
  cell_before_next n tree node has =
      omega (arith, cells_rise tree node (nodes_of (sizes_of tree.shape)) has.within, end_before_next trees n tree has.is_there)

  pub cells_apart : (m n : ℕ) (s t : Tree) (a b : ℕ) → HasNode trees m s a → HasNode trees n t b → ((m ≢ n) ⊎ (a ≢ b))
      → (cell_at s a + len_of s ≤ cell_at t b) ⊎ (cell_at t b + len_of t ≤ cell_at s a)
  cells_apart m n s t a b p q other =
      elim (cases_eq m n) [
        | inl same ↦ of_one same other
        | inr differ ↦ elim (apart.apart m n s t differ p.is_there q.is_there) [
          | inl before ↦ inl (omega (arith, cells_rise s a (nodes_of (sizes_of s.shape)) p.within, cell_from t b, before))
          | inr behind ↦ inr (omega (arith, cells_rise t b (nodes_of (sizes_of t.shape)) q.within, cell_from s a, behind))
        ]
      ]
    where
      ordered : s ≡ t → a ≢ b → (cell_at s a + len_of s ≤ cell_at t b) ⊎ (cell_at t b + len_of t ≤ cell_at s a)
      ordered one differ = elim (cases_order a b) [
        | inl same ↦ absurd (differ same)
        | inr apart ↦ elim apart [
          | inl below ↦ inl (subst (λ (u : Tree). cell_at s a + len_of s ≤ cell_at u b) one (cells_rise s a b below))
          | inr above ↦ inr (subst (λ (u : Tree). cell_at t b + len_of t ≤ cell_at u a) (sym one) (cells_rise t b a above))
        ]
      ]

      of_one : m ≡ n → ((m ≢ n) ⊎ (a ≢ b)) → (cell_at s a + len_of s ≤ cell_at t b) ⊎ (cell_at t b + len_of t ≤ cell_at s a)
      of_one same (inl differ) = absurd (differ same)
      of_one same (inr differ) =
          let there : tree_at trees m ≡ tree_at trees n = ap (tree_at trees) same in
          let p_is : tree_at trees m ≡ Some s = p.is_there in
          let q_is : tree_at trees n ≡ Some t = q.is_there in
          let one : s ≡ t = cc in
          ordered one differ

  -- two nodes have one cell, or cells that share no byte
  pub one_cell_or_apart : (m n : ℕ) (s t : Tree) (a b : ℕ) → HasNode trees m s a → HasNode trees n t b
      → ((s ≡ t) × (a ≡ b)) ⊎ ((cell_at s a + len_of s ≤ cell_at t b) ⊎ (cell_at t b + len_of t ≤ cell_at s a))
  one_cell_or_apart m n s t a b p q =
      elim (cases_eq m n) [
        | inl same ↦ elim (cases_eq a b) [
          | inl here ↦ inl (one_tree same, here)
          | inr differ ↦ inr (cells_apart m n s t a b p q (inr differ))
        ]
        | inr differ ↦ inr (cells_apart m n s t a b p q (inl differ))
      ]
    where
      one_tree : m ≡ n → s ≡ t
      one_tree same =
          let there : tree_at trees m ≡ tree_at trees n = ap (tree_at trees) same in
          let p_is : tree_at trees m ≡ Some s = p.is_there in
          let q_is : tree_at trees n ≡ Some t = q.is_there in
          cc

in_one_block : (cell half : ℕ) → cell % 2 ≡ 0 → cell / (2 * half) ≡ suc cell / (2 * half)
in_one_block cell half even =
    let same : cell / 2 ≡ suc cell / 2 = omega arith in
    sym (div-div-eq-div-mul cell 2 half) ∙ ap (λ (k : ℕ). k / half) same ∙ div-div-eq-div-mul (suc cell) 2 half

pub mark_shares_block : MarkSharesBlock
mark_shares_block trees number tree node half apart has = in_one_block (cell_at tree node) half (cell_even tree node (apart.even number tree has.is_there))
