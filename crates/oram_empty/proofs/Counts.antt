-- How many nodes and digests there are.
use Rattle.std.proofs.Common.{◌≡◌, ℕ, zero, suc, ◌+◌, ◌-◌, ◌*◌, ◌^◌, ◌<◌, ◌≤◌, refl, ap, sym, ◌∙◌, arith, if◌then◌else◌, ◌%◌, ◌/◌, true, false, inl, inr, ◌==◌}
use Rattle.std.proofs.lemmas.Nat.{pow_pos, pow-add, shr_below}
use Rattle.std.proofs.lemmas.Bool.Decides.{Decides-eqb, eqb_tells}
use Rattle.std.proofs.Math.Nat.{pow-le-pow_right}
use Rattle.oram_geometry.specs.declared.Sizes.{Sizes}
use Rattle.oram_geometry.specs.Sizes.{depth_of}
use Rattle.oram_geometry.specs.Path.{node_on}
use Rattle.oram_hash.specs.Record.{is_left_child}
use Rattle.oram_tree.specs.Content.{node_count}
use Rattle.oram_semantics.specs.Nonces.{formatted_below}
use Rattle.oram_semantics.proofs.Bounds.{depth_small}
use Rattle.oram_empty.specs.EmptyRecords.{begins_at}
use Rattle.oram_empty.specs.KeptDigests.{upper_count, upper_below}

pub formatted-none : (d : Sizes) → formatted_below d 0 ≡ 0
unfolding formatted_below
formatted-none d = refl

pub formatted-more : (d : Sizes) (n : ℕ) → formatted_below d (n + 1) ≡ formatted_below d n + node_count (depth_of d n)
unfolding formatted_below
formatted-more d n = let next : n + 1 ≡ suc n = omega arith in ap (formatted_below d) next

pub upper-none : (d : Sizes) → upper_below d 0 ≡ 0
unfolding upper_below
upper-none d = refl

pub upper-more : (d : Sizes) (n : ℕ) → upper_below d (n + 1) ≡ upper_below d n + upper_count (depth_of d n)
unfolding upper_below
upper-more d n = let next : n + 1 ≡ suc n = omega arith in ap (upper_below d) next

pub pow_few : (h n : ℕ) → h ≤ n → 2 ^ h ≤ 2 ^ n
pow_few h n few = pow-le-pow_right {n = 2} (omega arith) {i = h} {j = n} few

pub node_count-few : (h : ℕ) → h ≤ 24 → node_count h ≤ 2 ^ 25
node_count-few h few = omega (arith, pow_few (h + 1) 25 (omega arith))

pub upper_count-few : (depth : ℕ) → depth ≤ 24 → upper_count depth ≤ 2 ^ 21
upper_count-few depth few = omega (arith, pow_few (depth - 3) 21 (omega arith))

pub upper_few : (d : Sizes) (n : ℕ) → upper_below d n ≤ 2 ^ 21 * n
upper_few d zero = omega (arith, upper-none d)
upper_few d (suc n) =
    let next : suc n ≡ n + 1 = omega arith in
    omega (arith, ap (upper_below d) next, upper-more d n, upper_few d n, upper_count-few (depth_of d n) (depth_small d n))

pub begins-root : (base depth leaf : ℕ) → begins_at base depth leaf 0 ≡ base
unfolding begins_at
begins-root base depth leaf = refl

pub begins-more : (base depth leaf level : ℕ)
    → begins_at base depth leaf (level + 1) ≡ begins_at base depth leaf level + (if is_left_child (node_on depth leaf (level + 1)) then 0 else node_count (depth - (level + 1)))
unfolding begins_at
begins-more base depth leaf level = let next : level + 1 ≡ suc level = omega arith in ap (begins_at base depth leaf) next

-- what comes before a node's subtree within that of its parent
pub before-left : (n w x : ℕ) → n ≡ w → n % 2 ≡ 1 → 0 ≡ (if is_left_child w then 0 else x)
unfolding is_left_child
before-left n w x is odd =
    let test : (w % 2 == 1) ≡ true = (Decides-eqb (w % 2) 1).1 (ap (λ (k : ℕ). k % 2) (sym is) ∙ odd) in
    rw test refl

pub before-right : (n w x y : ℕ) → n ≡ w → (n % 2 ≡ 1 → ⊥) → y ≡ x → y ≡ (if is_left_child w then 0 else x)
unfolding is_left_child
before-right n w x y is even same =
    let test : (w % 2 == 1) ≡ false = elim (eqb_tells (w % 2) 1) [ inl t ↦ absurd (even (ap (λ (k : ℕ). k % 2) is ∙ t.1)) | inr t ↦ t.0 ] in
    rw test same

upper_rise : (d : Sizes) (n k : ℕ) → upper_below d n ≤ upper_below d (n + k)
upper_rise d n zero = let z : n + 0 ≡ n = omega arith in omega (arith, ap (upper_below d) z)
upper_rise d n (suc k) = let z : n + suc k ≡ n + k + 1 = omega arith in omega (arith, ap (upper_below d) z, upper-more d (n + k), upper_rise d n k)

-- the upper nodes of a tree end where those of a later tree begin, or before
pub upper_end : (d : Sizes) (i j : ℕ) → i < j → upper_below d i + upper_count (depth_of d i) ≤ upper_below d j
upper_end d i j h =
    let whole : i + 1 + (j - (i + 1)) ≡ j = omega arith in
    omega (arith, upper-more d i, upper_rise d (i + 1) (j - (i + 1)), ap (upper_below d) whole)

-- the node at a level of a path is one of the nodes down to that level
pub node_upto : (depth leaf level : ℕ) → leaf < 2 ^ depth → level ≤ depth → node_on depth leaf level + 1 < 2 ^ (level + 1)
unfolding node_on
node_upto depth leaf level fits h =
    let whole : 2 ^ depth ≡ 2 ^ (level + (depth - level)) = ap (λ (k : ℕ). 2 ^ k) (let e : depth ≡ level + (depth - level) = omega arith in e) in
    let below : leaf / 2 ^ (depth - level) < 2 ^ level = shr_below leaf level (depth - level) (omega arith) in
    omega (arith, pow-add 2 level 1, pow_pos level)

-- so it is a node of the tree
pub within_tree : (depth leaf level : ℕ) → leaf < 2 ^ depth → level ≤ depth → node_on depth leaf level < node_count depth
within_tree depth leaf level fits h = omega (arith, node_upto depth leaf level fits h, pow_few (level + 1) (depth + 1) (omega arith))

-- so it is an upper node, if it is more than three levels above the leaves
pub upper_node : (depth leaf level : ℕ) → leaf < 2 ^ depth → level + 3 < depth → node_on depth leaf level < upper_count depth
upper_node depth leaf level fits h = omega (arith, node_upto depth leaf level fits (omega arith), pow_few (level + 1) (depth - 3) (omega arith))
