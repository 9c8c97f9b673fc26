-- The level of a node, and the leftmost leaf below it.
use Rattle.std.proofs.Common.{◌≡◌, ℕ, suc, ◌+◌, ◌-◌, ◌*◌, ◌/◌, ◌%◌, ◌^◌, ◌<◌, ◌≤◌, arith, inl, inr, sym, ap, ◌∙◌}
use Rattle.std.proofs.Math.Nat.{mod-eq_of_lt, mul-le-mul_right, pow-le-pow_right}
use Rattle.std.proofs.lemmas.Bool.{cases_lt}
use Rattle.std.proofs.lemmas.Nat.{one_shl, pow-add, pow_pos, shl-shr, shr_below}
use Rattle.oram_geometry.specs.Path.{node_on}

-- the numbers of the nodes of a level
pub level_bounds : (depth leaf level : ℕ) → leaf < 2 ^ depth → level ≤ depth → (2 ^ level ≤ node_on depth leaf level + 1) × (node_on depth leaf level + 1 < 2 * 2 ^ level)
unfolding node_on
level_bounds depth leaf level leaf_in within =
    let whole : 2 ^ depth ≡ 2 ^ (level + (depth - level)) = ap (λ (k : ℕ). 2 ^ k) (let e : depth ≡ level + (depth - level) = omega (arith, within) in e) in
    let below : leaf / 2 ^ (depth - level) < 2 ^ level = shr_below leaf level (depth - level) (omega (arith, leaf_in, whole)) in
    (omega (arith, pow_pos level), omega (arith, below, pow_pos level))

-- a number of one level is of no level above it
pub level_from : (n a b : ℕ) → 2 ^ a ≤ n → n < 2 * 2 ^ b → a ≤ b
level_from n a b from to = elim (cases_lt b a) [
  | inl over ↦
      let most : 2 ^ (b + 1) ≤ 2 ^ a = pow-le-pow_right (omega arith) (omega (arith, over)) in
      let twice : 2 ^ (b + 1) ≡ 2 ^ b * 2 = pow-add 2 b 1 in
      absurd (omega (arith, most, twice, from, to))
  | inr under ↦ omega (arith, under)
]

module _ (depth node l : ℕ) (deep : depth ≤ 24) (within : node < 2 ^ (depth + 1) - 1) (from : 2 ^ l ≤ node + 1) (to : node + 1 < 2 * 2 ^ l) where
  pub level_in : l ≤ depth
  level_in =
      let twice : 2 ^ (depth + 1) ≡ 2 ^ depth * 2 = pow-add 2 depth 1 in
      level_from (node + 1) l depth from (omega (arith, within, twice))

  whole : 2 ^ l * 2 ^ (depth - l) ≡ 2 ^ depth
  whole = sym (pow-add 2 l (depth - l)) ∙ ap (λ (k : ℕ). 2 ^ k) (let e : l + (depth - l) ≡ depth = omega (arith, level_in) in e)

  pub leftmost_in : (node + 1 - 2 ^ l) * 2 ^ (depth - l) < 2 ^ depth
  leftmost_in =
      let j = node + 1 - 2 ^ l in
      let low : suc j ≤ 2 ^ l = omega (arith, from, to) in
      let most : suc j * 2 ^ (depth - l) ≤ 2 ^ l * 2 ^ (depth - l) = mul-le-mul_right (2 ^ (depth - l)) low in
      let next : suc j * 2 ^ (depth - l) ≡ 2 ^ (depth - l) + j * 2 ^ (depth - l) = grind arith in
      omega (arith, most, next, whole, pow_pos (depth - l))

  pub leftmost_there : node_on depth ((node + 1 - 2 ^ l) * 2 ^ (depth - l)) l ≡ node
  unfolding node_on
  leftmost_there =
      let same : 2 ^ l - 1 + (node + 1 - 2 ^ l) ≡ node = omega (arith, from, pow_pos l) in
      ap (λ (q : ℕ). 2 ^ l - 1 + q) (shl-shr (node + 1 - 2 ^ l) (depth - l)) ∙ same

  leaf_is : (node + 1 - 1 * 2 ^ l % 4294967296) * 2 ^ (depth - l) % 4294967296 ≡ (node + 1 - 2 ^ l) * 2 ^ (depth - l)
  leaf_is =
      let most : 2 ^ depth ≤ 2 ^ 24 = pow-le-pow_right (omega arith) deep in
      ap (λ (p : ℕ). (node + 1 - p) * 2 ^ (depth - l) % 4294967296) (one_shl l 32 (omega (arith, level_in, deep)))
      ∙ mod-eq_of_lt (omega (arith, leftmost_in, most))

  -- the leaf, as the code finds it
  pub leaf_in : (node + 1 - 1 * 2 ^ l % 4294967296) * 2 ^ (depth - l) % 4294967296 < 2 ^ depth
  leaf_in = omega (arith, leaf_is, leftmost_in)

  pub leaf_there : node_on depth ((node + 1 - 1 * 2 ^ l % 4294967296) * 2 ^ (depth - l) % 4294967296) l ≡ node
  leaf_there = ap (λ (leaf : ℕ). node_on depth leaf l) leaf_is ∙ leftmost_there
