-- The nodes of a path. A host knows the depth of a tree and no device, and uses none of the client's crates: so it has its own
-- `node_on`, and its own proofs about it.
use Rattle.std.proofs.Common.{◌≡◌, ℕ, ◌+◌, ◌-◌, ◌*◌, ◌/◌, ◌^◌, ◌<◌, ◌≤◌, ◌⊎◌, inl, inr, refl, sym, arith, zero, suc, ap, subst, ◌∙◌}
use Rattle.std.proofs.lemmas.Bool.{cases_order}
use Rattle.std.proofs.lemmas.Nat.{pow_pos, pow-add, shr-shr, shr_below}
use Rattle.std.proofs.Math.Nat.{pow-le-pow_right}
use Rattle.oram_host.specs.Path.{node_on}

half : (leaf k : ℕ) → leaf / 2 ^ (k + 1) ≡ leaf / 2 ^ k / 2
half leaf k = sym (shr-shr leaf k 1)

-- the arithmetic of a step, over the power p of the level and the quotient q at the next
doubled : (p q r n m : ℕ) → 0 < p → r ≡ q / 2 → n ≡ p - 1 + r → m ≡ p * 2 - 1 + q → (m ≡ 2 * n + 1) ⊎ (m ≡ 2 * n + 2)
doubled p q r n m pos e f g = grind arith

-- each next node of a path is a child of the one before
pub node_on-child : (depth leaf level : ℕ) → level < depth → (node_on depth leaf (level + 1) ≡ 2 * node_on depth leaf level + 1) ⊎ (node_on depth leaf (level + 1) ≡ 2 * node_on depth leaf level + 2)
unfolding node_on
node_on-child depth leaf level h =
    doubled (2 ^ level) (leaf / 2 ^ (depth - (level + 1))) (leaf / 2 ^ (depth - level)) _ _ (pow_pos level)
    (ap (λ (k : ℕ). leaf / 2 ^ k) (let e : depth - level ≡ depth - (level + 1) + 1 = omega arith in e) ∙ half leaf (depth - (level + 1)))
    refl
    (ap (λ (p : ℕ). p - 1 + leaf / 2 ^ (depth - (level + 1))) (pow-add 2 level 1))

-- a path goes to higher node numbers
pub node_on-rises : (depth leaf i k : ℕ) → i + k + 1 ≤ depth → node_on depth leaf i < node_on depth leaf (i + k + 1)
node_on-rises depth leaf i zero h =
    elim (node_on-child depth leaf i (omega arith)) [
      | inl e ↦ rw (let z : i + 0 + 1 ≡ i + 1 = omega arith in z) (omega arith)
      | inr e ↦ rw (let z : i + 0 + 1 ≡ i + 1 = omega arith in z) (omega arith)
    ]
node_on-rises depth leaf i (suc k) h =
    let before : node_on depth leaf i < node_on depth leaf (i + k + 1) = node_on-rises depth leaf i k (omega arith) in
    let z : i + suc k + 1 ≡ i + k + 1 + 1 = omega arith in
    elim (node_on-child depth leaf (i + k + 1) (omega arith)) [
      | inl e ↦ rw z (omega arith)
      | inr e ↦ rw z (omega arith)
    ]

rises_to : (depth leaf i l : ℕ) → i < l → l ≤ depth → node_on depth leaf i < node_on depth leaf l
rises_to depth leaf i l h fits =
    let z : l ≡ i + (l - (i + 1)) + 1 = omega arith in
    let P : ℕ → Type 0 = λ x. node_on depth leaf i < node_on depth leaf x in
    subst P (sym z) (node_on-rises depth leaf i (l - (i + 1)) (omega arith))

-- a path has a node at one level only
pub node_on-injective : (depth leaf i l : ℕ) → i ≤ depth → l ≤ depth → node_on depth leaf i ≡ node_on depth leaf l → i ≡ l
node_on-injective depth leaf i l hi hl e =
    elim (cases_order i l) [
      | inl same ↦ same
      | inr apart ↦ elim apart [
        | inl below ↦ absurd (omega (arith, rises_to depth leaf i l below hl))
        | inr over ↦ absurd (omega (arith, rises_to depth leaf l i over hi))
      ]
    ]

-- a path stays in its tree
pub node_on-within : (depth leaf level : ℕ) → leaf < 2 ^ depth → level ≤ depth → node_on depth leaf level < 2 ^ (depth + 1) - 1
unfolding node_on
node_on-within depth leaf level fits h =
    let whole : 2 ^ depth ≡ 2 ^ (level + (depth - level)) = ap (λ (k : ℕ). 2 ^ k) (let e : depth ≡ level + (depth - level) = omega arith in e) in
    let below : leaf / 2 ^ (depth - level) < 2 ^ level = shr_below leaf level (depth - level) (omega arith) in
    let twice : 2 ^ (depth + 1) ≡ 2 ^ depth * 2 = pow-add 2 depth 1 in
    let most : 2 ^ level ≤ 2 ^ depth = pow-le-pow_right (omega arith) h in
    omega (arith, pow_pos level)
