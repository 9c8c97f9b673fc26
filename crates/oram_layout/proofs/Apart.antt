-- Trees that are found apart one by one: each from those before it.
use Rattle.std.proofs.Common.{◌≡◌, ◌⊎◌, inl, inr, ℕ, ◌+◌, ◌%◌, ◌<◌, ◌≤◌, length, take, Option, Some, None, sym, ◌∙◌, ap, arith}
use Rattle.std.proofs.lemmas.Bool.{cases_eq, cases_lt}
use Rattle.std.proofs.lemmas.List.{get_or-take, get_or_past, length-take}
use Rattle.oram_layout.specs.Trees.{AreApart, IsApartFrom, IsPlaced, Trees, end_of, tree_at}
use Rattle.oram_layout.specs.declared.trees.Tree.{Tree}

-- two trees share no byte
abbrev pub Apart : Tree → Tree → Type 0
Apart other tree = (end_of other ≤ tree.base) ⊎ (end_of tree ≤ other.base)

-- the tree is apart from those below a number
abbrev pub IsApartBelow : Tree → Trees → ℕ → Type 0
IsApartBelow tree others i = (n : ℕ) (other : Tree) → n < i → tree_at others n ≡ Some other → Apart other tree

tree_within : (trees : Trees) (n : ℕ) (tree : Tree) → tree_at trees n ≡ Some tree → n < length trees
tree_within trees n tree there =
    elim (cases_lt n (length trees)) [
      | inl within ↦ within
      | inr past ↦ absurd (none (get_or_past trees n None past))
    ]
  where
    none : tree_at trees n ≡ None → ⊥
    none is = cc

-- the trees below a number are after the header, and apart
pub record AreApartBelow (trees : Trees) (i : ℕ) : Type 0 where
  pub from : (n : ℕ) (tree : Tree) → n < i → tree_at trees n ≡ Some tree → 8192 ≤ tree.base
  pub even : (n : ℕ) (tree : Tree) → n < i → tree_at trees n ≡ Some tree → tree.base % 2 ≡ 0
  pub apart : (m n : ℕ) (s t : Tree) → m < n → n < i → tree_at trees m ≡ Some s → tree_at trees n ≡ Some t → Apart s t

pub placed_more : (trees : Trees) (i : ℕ) (item : Option Tree) → tree_at trees i ≡ item → ((tree : Tree) → item ≡ Some tree → IsPlaced tree (take i trees)) → AreApartBelow trees i → AreApartBelow trees (i + 1)
placed_more trees i item is here below = record {
  from = λ n tree h there. elim (cases_eq n i) [
    | inl same ↦ (here tree (its n tree same there)).from
    | inr differ ↦ below.from n tree (omega arith) there
  ];
  even = λ n tree h there. elim (cases_eq n i) [
    | inl same ↦ (here tree (its n tree same there)).even
    | inr differ ↦ below.even n tree (omega arith) there
  ];
  apart = λ m n s t before h p q. elim (cases_eq n i) [
    | inl same ↦ (here t (its n t same q)).apart m s (get_or-take i trees m None (omega arith) ∙ p)
    | inr differ ↦ below.apart m n s t before (omega arith) p q
  ];
}
  where
    its : (n : ℕ) (tree : Tree) → n ≡ i → tree_at trees n ≡ Some tree → item ≡ Some tree
    its n tree same there = sym is ∙ ap (tree_at trees) (sym same) ∙ there

pub placed_there : (trees : Trees) (i : ℕ) (tree : Tree) → AreApart trees → tree_at trees i ≡ Some tree → IsPlaced tree (take i trees)
placed_there trees i tree apart there = record { from = apart.from i tree there; even = apart.even i tree there; apart = before }
  where
    before : IsApartFrom tree (take i trees)
    before n other taken =
        let low : n < i = omega (arith, tree_within (take i trees) n other taken, length-take i trees) in
        apart.apart n i other tree (λ same. absurd (omega arith)) (sym (get_or-take i trees n None low) ∙ taken) there
