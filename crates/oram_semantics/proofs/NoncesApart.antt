-- No two sealed buckets have the same nonce.
use Rattle.std.proofs.Common.{◌≡◌, ℕ, zero, suc, ◌+◌, ◌-◌, ◌*◌, ◌/◌, ◌%◌, ◌^◌, ◌<◌, ◌≤◌, refl, ap, sym, ◌∙◌, subst, arith, inl, inr}
use Rattle.std.proofs.lemmas.Bool.{cases_order}
use Rattle.std.proofs.Math.Nat.{pow-le-pow_right}
use Rattle.std.proofs.lemmas.Nat.{div-mul-add, mod-mul-add, pow-add}
use Rattle.oram_geometry.specs.declared.Sizes.{Sizes}
use Rattle.oram_geometry.specs.Sizes.{trees_of, depth_of}
use Rattle.oram_tree.specs.Content.{node_count}
use Rattle.oram_semantics.specs.Nonces.{formatted_below, buckets_below, buckets_after, store_nonce, NoncesAreApart}
use Rattle.oram_semantics.proofs.Bounds.{depth_small}
use Rattle.oram_semantics.proofs.Nonces.{rises_to, one_more, no_buckets}

one_tree : (d : Sizes) (n : ℕ) → formatted_below d (suc n) ≡ formatted_below d n + node_count (depth_of d n)
unfolding formatted_below
one_tree d n = refl

rises : (d : Sizes) (n k : ℕ) → formatted_below d n ≤ formatted_below d (n + k)
rises d n zero =
    let z : n + 0 ≡ n = omega arith in
    subst (λ (m : ℕ). formatted_below d n ≤ formatted_below d m) (sym z) (omega arith)
rises d n (suc k) =
    let z : n + suc k ≡ suc (n + k) = omega arith in
    subst (λ (m : ℕ). formatted_below d n ≤ formatted_below d m) (sym z) (omega (arith, rises d n k, one_tree d (n + k)))

-- the nonces of a tree's formatting end where those of a later tree begin, or before
puts_end : (d : Sizes) (i j : ℕ) → i < j → formatted_below d i + node_count (depth_of d i) ≤ formatted_below d j
puts_end d i j h =
    let whole : suc i + (j - suc i) ≡ j = omega arith in
    omega (arith, one_tree d i, subst (λ (m : ℕ). formatted_below d (suc i) ≤ formatted_below d m) whole (rises d (suc i) (j - suc i)))

puts_apart : (d : Sizes) (i j k m : ℕ) → k < node_count (depth_of d i) → m < node_count (depth_of d j)
    → formatted_below d i + k ≡ formatted_below d j + m → (i ≡ j) × (k ≡ m)
puts_apart d i j k m small few e = elim (cases_order i j) [
  | inl same ↦ (same, omega (arith, ap (formatted_below d) same))
  | inr apart ↦ elim apart [
    | inl below ↦ absurd (omega (arith, puts_end d i j below))
    | inr above ↦ absurd (omega (arith, puts_end d j i above))
  ]
]

-- within a ticket, the nonces of a tree's path end where those of the path of a lower tree begin, or before
path_end : (d : Sizes) (i j : ℕ) → i < trees_of d → j < i → buckets_after d i + (depth_of d i + 1) ≤ buckets_after d j
path_end d i j few h =
    omega (arith, one_more d i (i + 1) refl, rises_to d (i + 1) (trees_of d) (omega arith), rises_to d (j + 1) i (omega arith))

path_last : (d : Sizes) (i : ℕ) → i < trees_of d → buckets_after d i + (depth_of d i + 1) ≤ buckets_below d (trees_of d)
path_last d i few = omega (arith, one_more d i (i + 1) refl, rises_to d (i + 1) (trees_of d) (omega arith))

levels_apart : (d : Sizes) (i j l m : ℕ) → i < trees_of d → j < trees_of d → l ≤ depth_of d i → m ≤ depth_of d j
    → buckets_after d i + l ≡ buckets_after d j + m → (i ≡ j) × (l ≡ m)
levels_apart d i j l m few less small low e = elim (cases_order i j) [
  | inl same ↦ (same, omega (arith, ap (buckets_after d) same))
  | inr apart ↦ elim apart [
    | inl below ↦ absurd (omega (arith, path_end d j i less below))
    | inr above ↦ absurd (omega (arith, path_end d i j few above))
  ]
]

parts : (w t u a b : ℕ) → a < w → b < w → t * w + a ≡ u * w + b → (t ≡ u) × (a ≡ b)
parts w t u a b h k e =
    (sym (div-mul-add t w a h) ∙ ap (λ n. n / w) e ∙ div-mul-add u w b k, sym (mod-mul-add t w a h) ∙ ap (λ n. n % w) e ∙ mod-mul-add u w b k)

stores_apart : (d : Sizes) (t u i j l m : ℕ) → i < trees_of d → j < trees_of d → l ≤ depth_of d i → m ≤ depth_of d j
    → store_nonce d t i + l ≡ store_nonce d u j + m → (t ≡ u) × (i ≡ j) × (l ≡ m)
stores_apart d t u i j l m few less small low e =
    let w : ℕ = buckets_below d (trees_of d) in
    let sum : t * w + (buckets_after d i + l) ≡ u * w + (buckets_after d j + m) = omega arith in
    let both =
    parts w t u (buckets_after d i + l) (buckets_after d j + m) (omega (arith, path_last d i few)) (omega (arith, path_last d j less)) sum in
    let level = levels_apart d i j l m few less small low both.1 in
    (both.0, level.0, level.1)

pub nonces_apart : NoncesAreApart
nonces_apart d = record {
  puts = λ i j k m few less small low e. puts_apart d i j k m small low e;
  stores = stores_apart d;
  between = λ t i j k l few small e. omega (arith, puts_end d i (trees_of d) few);
}

-- and there are few: a path has at most 25 buckets, and a tree fewer than 2 ^ 25

pub buckets_small : (d : Sizes) (n : ℕ) → buckets_below d n ≤ 25 * n
buckets_small d zero = omega (arith, no_buckets d)
buckets_small d (suc n) =
    let next : suc n ≡ n + 1 = omega arith in
    omega (arith, one_more d n (suc n) next, buckets_small d n, depth_small d n)

no_tree : (d : Sizes) → formatted_below d 0 ≡ 0
unfolding formatted_below
no_tree d = refl

pub node_count-small : (depth : ℕ) → depth ≤ 24 → node_count depth ≤ 2 ^ 25
node_count-small depth few =
    let most : 2 ^ depth ≤ 2 ^ 24 = pow-le-pow_right {n = 2} (omega arith) {i = depth} {j = 24} few in
    omega (arith, pow-add 2 depth 1)

pub formatted_small : (d : Sizes) (n : ℕ) → formatted_below d n ≤ 2 ^ 25 * n
formatted_small d zero = omega (arith, no_tree d)
formatted_small d (suc n) = omega (arith, one_tree d n, formatted_small d n, node_count-small (depth_of d n) (depth_small d n))
