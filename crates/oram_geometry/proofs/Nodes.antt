use Rattle.std.proofs.Common.{◌≡◌, ℕ, ◌+◌, ◌-◌, ◌*◌, ◌/◌, ◌^◌, ◌<◌, ◌≤◌, ◌⊎◌, inl, inr, refl, sym, arith, zero, suc, ap, subst, ◌∙◌, ◌≢◌}
use Rattle.std.proofs.lemmas.Bool.{cases_order, cases_eq}
use Rattle.std.proofs.lemmas.Nat.{pow_pos, pow-add, shr-shr, shr_below, shr_le}
use Rattle.std.proofs.Math.Nat.{pow-le-pow_right}
use Rattle.oram_geometry.specs.Path.{node_on, IsOffPath}

-- a path begins at the root
pub node_on-zero : (depth leaf : ℕ) → leaf < 2 ^ depth → node_on depth leaf 0 ≡ 0
unfolding node_on
node_on-zero depth leaf h =
    let q : leaf / 2 ^ (depth - 0) < 2 ^ 0 = shr_below leaf 0 (depth - 0) (omega (arith, ap (λ (k : ℕ). 2 ^ k) (let e : 0 + (depth - 0) ≡ depth = omega arith in e))) in
    omega arith

half : (leaf k : ℕ) → leaf / 2 ^ (k + 1) ≡ leaf / 2 ^ k / 2
half leaf k = sym (shr-shr leaf k 1)

-- the arithmetic of one step, with p for the power of two of the level and q for the quotient at the next level
doubled : (p q r n m : ℕ) → 0 < p → r ≡ q / 2 → n ≡ p - 1 + r → m ≡ p * 2 - 1 + q → (m ≡ 2 * n + 1) ⊎ (m ≡ 2 * n + 2)
doubled p q r n m pos e f g = grind arith

-- each node of a path is a child of the one before it
pub node_on-child : (depth leaf level : ℕ) → level < depth → (node_on depth leaf (level + 1) ≡ 2 * node_on depth leaf level + 1) ⊎ (node_on depth leaf (level + 1) ≡ 2 * node_on depth leaf level + 2)
unfolding node_on
node_on-child depth leaf level h =
    doubled (2 ^ level) (leaf / 2 ^ (depth - (level + 1))) (leaf / 2 ^ (depth - level)) _ _ (pow_pos level)
    (ap (λ (k : ℕ). leaf / 2 ^ k) (let e : depth - level ≡ depth - (level + 1) + 1 = omega arith in e) ∙ half leaf (depth - (level + 1)))
    refl
    (ap (λ (p : ℕ). p - 1 + leaf / 2 ^ (depth - (level + 1))) (pow-add 2 level 1))

-- above the leaves a path has inner nodes
pub node_on-inner : (depth leaf level : ℕ) → leaf < 2 ^ depth → level < depth → node_on depth leaf level < 2 ^ depth - 1
unfolding node_on
node_on-inner depth leaf level fits h =
    let whole : 2 ^ depth ≡ 2 ^ (level + (depth - level)) = ap (λ (k : ℕ). 2 ^ k) (let e : depth ≡ level + (depth - level) = omega arith in e) in
    let below : leaf / 2 ^ (depth - level) < 2 ^ level = shr_below leaf level (depth - level) (omega arith) in
    let twice : 2 ^ (level + 1) ≡ 2 ^ level * 2 = pow-add 2 level 1 in
    let most : 2 ^ (level + 1) ≤ 2 ^ depth = pow-le-pow_right (omega arith) (omega arith) in
    omega (arith, pow_pos level)

-- a path ends at a leaf
pub node_on-leaf : (depth leaf : ℕ) → leaf < 2 ^ depth → (2 ^ depth - 1 ≤ node_on depth leaf depth) × (node_on depth leaf depth < 2 ^ (depth + 1) - 1)
unfolding node_on
node_on-leaf depth leaf h =
    let twice : 2 ^ (depth + 1) ≡ 2 ^ depth * 2 = pow-add 2 depth 1 in
    let part : leaf / 2 ^ (depth - depth) ≤ leaf = shr_le leaf (depth - depth) in
    (omega arith, omega (arith, pow_pos depth))

-- node numbers rise along a path
pub node_on-rises : (depth leaf i k : ℕ) → i + k + 1 ≤ depth → node_on depth leaf i < node_on depth leaf (i + k + 1)
node_on-rises depth leaf i zero h =
    elim (node_on-child depth leaf i (omega arith)) [
      | inl e ↦ rw (let z : i + 0 + 1 ≡ i + 1 = omega arith in z) (omega arith)
      | inr e ↦ rw (let z : i + 0 + 1 ≡ i + 1 = omega arith in z) (omega arith)
    ]
node_on-rises depth leaf i (suc k) h =
    let before : node_on depth leaf i < node_on depth leaf (i + k + 1) = node_on-rises depth leaf i k (omega arith) in
    let z : i + suc k + 1 ≡ i + k + 1 + 1 = omega arith in
    elim (node_on-child depth leaf (i + k + 1) (omega arith)) [
      | inl e ↦ rw z (omega arith)
      | inr e ↦ rw z (omega arith)
    ]

rises_to : (depth leaf i l : ℕ) → i < l → l ≤ depth → node_on depth leaf i < node_on depth leaf l
rises_to depth leaf i l h fits =
    let z : l ≡ i + (l - (i + 1)) + 1 = omega arith in
    let P : ℕ → Type 0 = λ x. node_on depth leaf i < node_on depth leaf x in
    subst P (sym z) (node_on-rises depth leaf i (l - (i + 1)) (omega arith))

-- a path has a node at only one level
pub node_on-injective : (depth leaf i l : ℕ) → i ≤ depth → l ≤ depth → node_on depth leaf i ≡ node_on depth leaf l → i ≡ l
node_on-injective depth leaf i l hi hl e =
    elim (cases_order i l) [
      | inl same ↦ same
      | inr apart ↦ elim apart [
        | inl below ↦ absurd (omega (arith, rises_to depth leaf i l below hl))
        | inr over ↦ absurd (omega (arith, rises_to depth leaf l i over hi))
      ]
    ]

searched : (depth leaf node n : ℕ) → ((l : ℕ) × (l < n) × (node ≡ node_on depth leaf l)) ⊎ ((l : ℕ) → l < n → node ≢ node_on depth leaf l)
searched depth leaf node zero = inr (λ l h. absurd (omega arith))
searched depth leaf node (suc n) =
    elim (searched depth leaf node n) [
      | inl found ↦ inl (found.0, omega arith, found.2)
      | inr none ↦ elim (cases_eq node (node_on depth leaf n)) [
        | inl e ↦ inl (n, omega arith, e)
        | inr ne ↦ inr (λ l h. elim (cases_eq l n) [
          | inl same ↦ λ e. ne (e ∙ ap (node_on depth leaf) same)
          | inr other ↦ none l (omega arith)
        ])
      ]
    ]

-- a node is on a path or off it
pub on_or_off : (depth leaf node : ℕ) → ((l : ℕ) × (l ≤ depth) × (node ≡ node_on depth leaf l)) ⊎ IsOffPath depth leaf node
on_or_off depth leaf node =
    elim (searched depth leaf node (suc depth)) [
      | inl found ↦ inl (found.0, omega arith, found.2)
      | inr none ↦ inr (λ l h. none l (omega arith))
    ]

-- the parent of a node of a path is on the path
above : (depth leaf n c level : ℕ) → leaf < 2 ^ depth → level ≤ depth → (c ≡ 2 * n + 1) ⊎ (c ≡ 2 * n + 2) → c ≡ node_on depth leaf level → (k : ℕ) × (k < depth) × (n ≡ node_on depth leaf k) × (level ≡ k + 1)
above depth leaf n c zero fits h which e = absurd (elim which [ inl f ↦ omega (arith, node_on-zero depth leaf fits) | inr f ↦ omega (arith, node_on-zero depth leaf fits) ])
above depth leaf n c (suc k) fits h which e =
    let z : suc k ≡ k + 1 = omega arith in
    let at : c ≡ node_on depth leaf (k + 1) = e ∙ ap (node_on depth leaf) z in (
      k,
      omega arith,
      elim which [
        | inl f ↦ elim (node_on-child depth leaf k (omega arith)) [ inl g ↦ omega arith | inr g ↦ omega arith ]
        | inr f ↦ elim (node_on-child depth leaf k (omega arith)) [ inl g ↦ omega arith | inr g ↦ omega arith ]
      ],
      z,
    )

-- the children of a node off a path are off it
pub off_child : (depth leaf n c : ℕ) → leaf < 2 ^ depth → (c ≡ 2 * n + 1) ⊎ (c ≡ 2 * n + 2) → IsOffPath depth leaf n → IsOffPath depth leaf c
off_child depth leaf n c fits which off level h e =
    let up = above depth leaf n c level fits h which e in
    off up.0 (omega arith) up.2

-- of the two children of a node of a path, the one that isn't the path's next node is off the path
pub off_sibling : (depth leaf level c : ℕ) → leaf < 2 ^ depth → level < depth → (c ≡ 2 * node_on depth leaf level + 1) ⊎ (c ≡ 2 * node_on depth leaf level + 2) → c ≢ node_on depth leaf (level + 1) → IsOffPath depth leaf c
off_sibling depth leaf level c fits h which ne l hl e =
    let up = above depth leaf (node_on depth leaf level) c l fits hl which e in
    let same : level ≡ up.0 = node_on-injective depth leaf level up.0 (omega arith) (omega arith) up.2 in
    let at : l ≡ level + 1 = omega (arith, up.3) in
    ne (e ∙ ap (node_on depth leaf) at)
