-- How the nonce rises with each good answer.
use Rattle.std.proofs.Common.{◌≡◌, ℕ, zero, suc, ◌+◌, ◌-◌, ◌*◌, ◌/◌, ◌%◌, ◌<◌, ◌≤◌, refl, ap, sym, ◌∙◌, subst, arith}
use Rattle.std.proofs.lemmas.Nat.{div-mul-add, mod-mul-add}
use Rattle.oram_geometry.specs.declared.Sizes.{Sizes}
use Rattle.oram_geometry.specs.Sizes.{trees_of, depth_of}
use Rattle.oram_semantics.specs.Content.{entry_tree}
use Rattle.oram_semantics.specs.Progress.{Setting}
use Rattle.oram_semantics.specs.Nonces.{formatted, buckets_below, next_nonce, store_nonce}

rises : (d : Sizes) (n k : ℕ) → buckets_below d n ≤ buckets_below d (n + k)
unfolding buckets_below
rises d n zero = let z : n + 0 ≡ n = omega arith in subst (λ (m : ℕ). buckets_below d n ≤ buckets_below d m) (sym z) (omega arith)
rises d n (suc k) =
    let z : n + suc k ≡ suc (n + k) = omega arith in
    subst (λ (m : ℕ). buckets_below d n ≤ buckets_below d m) (sym z) (omega (arith, rises d n k))

pub rises_to : (d : Sizes) (m n : ℕ) → m ≤ n → buckets_below d m ≤ buckets_below d n
rises_to d m n h =
    let z : m + (n - m) ≡ n = omega arith in
    subst (λ (k : ℕ). buckets_below d m ≤ buckets_below d k) z (rises d m (n - m))

pub one_more : (d : Sizes) (n m : ℕ) → m ≡ n + 1 → buckets_below d m ≡ buckets_below d n + (depth_of d n + 1)
unfolding buckets_below
one_more d n m e = let z : m ≡ suc n = omega arith in ap (buckets_below d) z

pub no_buckets : (d : Sizes) → buckets_below d 0 ≡ 0
unfolding buckets_below
no_buckets d = refl

-- the nonce for the next bucket, after this many good answers
unfoldable pub nonce_at : Setting → ℕ → ℕ
nonce_at v g =
    let h = trees_of v.scheme.device in
    next_nonce v.scheme.device (g / (2 * h)) (g % (2 * h))

pub nonce_split : (v : Setting) (g n r : ℕ) → g ≡ n * (2 * trees_of v.scheme.device) + r → r < 2 * trees_of v.scheme.device →
    nonce_at v g ≡ next_nonce v.scheme.device n r
unfolding nonce_at
nonce_split v g n r e few =
    let d = v.scheme.device in
    let h : ℕ = 2 * trees_of d in
    let t : g / h ≡ n = ap (λ k. k / h) e ∙ div-mul-add n h r few in
    let s : g % h ≡ r = ap (λ k. k % h) e ∙ mod-mul-add n h r few in
    rw (t, s) refl

pub nonce_stored : (v : Setting) (g n r : ℕ) → g ≡ n * (2 * trees_of v.scheme.device) + r → r < 2 * trees_of v.scheme.device
    → r % 2 ≡ 0 → nonce_at v (g + 1) ≡ nonce_at v g + (depth_of v.scheme.device (entry_tree v.scheme.device r) + 1)
nonce_stored v g n r e few even =
    let d = v.scheme.device in
    let h : ℕ = trees_of d in
    let i : ℕ = entry_tree d r in
    let before = nonce_split v g n r e few in
    let more : g + 1 ≡ n * (2 * trees_of d) + (r + 1) = omega arith in
    let after = nonce_split v (g + 1) n (r + 1) more (omega arith) in
    let low : h - (r + 1 + 1) / 2 ≡ i = omega arith in
    let high : h - (r + 1) / 2 ≡ i + 1 = omega arith in
    let step : buckets_below d (i + 1) ≡ buckets_below d i + (depth_of d i + 1) = one_more d i (i + 1) refl in
    let most : buckets_below d (i + 1) ≤ buckets_below d h =
    subst (λ (m : ℕ). buckets_below d (i + 1) ≤ buckets_below d m) (let z : i + 1 + (h - (i + 1)) ≡ h = omega arith in z) (rises d (i + 1) (h - (i + 1))) in
    let after' : nonce_at v (g + 1) ≡ formatted d + n * buckets_below d h + (buckets_below d h - buckets_below d i) =
    after ∙ ap (λ k. formatted d + n * buckets_below d h + (buckets_below d h - buckets_below d k)) low in
    let before' : nonce_at v g ≡ formatted d + n * buckets_below d h + (buckets_below d h - buckets_below d (i + 1)) =
    before ∙ ap (λ k. formatted d + n * buckets_below d h + (buckets_below d h - buckets_below d k)) high in
    omega arith

pub nonce_fetched : (v : Setting) (g n r : ℕ) → g ≡ n * (2 * trees_of v.scheme.device) + r
    → r + 1 < 2 * trees_of v.scheme.device → r % 2 ≡ 1 → nonce_at v (g + 1) ≡ nonce_at v g
nonce_fetched v g n r e few odd =
    let d = v.scheme.device in
    let more : g + 1 ≡ n * (2 * trees_of d) + (r + 1) = omega arith in
    let same : trees_of d - (r + 1 + 1) / 2 ≡ trees_of d - (r + 1) / 2 = omega arith in
    nonce_split v (g + 1) n (r + 1) more few
    ∙ ap (λ k. formatted d + n * buckets_below d (trees_of d) + (buckets_below d (trees_of d) - buckets_below d k)) same
    ∙ sym (nonce_split v g n r e (omega arith))

pub nonce_finished : (v : Setting) (g n r : ℕ) → g ≡ n * (2 * trees_of v.scheme.device) + r
    → r + 1 ≡ 2 * trees_of v.scheme.device → nonce_at v (g + 1) ≡ nonce_at v g
nonce_finished v g n r e last =
    let d = v.scheme.device in
    let h : ℕ = trees_of d in
    let more : g + 1 ≡ (n + 1) * (2 * trees_of d) + 0 = omega arith in
    let none : h - (r + 1) / 2 ≡ 0 = omega arith in
    let all : h - (0 + 1) / 2 ≡ h = omega arith in
    let after : nonce_at v (g + 1) ≡ formatted d + (n + 1) * buckets_below d h + (buckets_below d h - buckets_below d h) =
    nonce_split v (g + 1) (n + 1) 0 more (omega arith)
    ∙ ap (λ k. formatted d + (n + 1) * buckets_below d h + (buckets_below d h - buckets_below d k)) all in
    let before : nonce_at v g ≡ formatted d + n * buckets_below d h + (buckets_below d h - 0) =
    nonce_split v g n r e (omega arith)
    ∙ ap (λ k. formatted d + n * buckets_below d h + (buckets_below d h - buckets_below d k)) none
    ∙ ap (λ k. formatted d + n * buckets_below d h + (buckets_below d h - k)) (no_buckets d) in
    omega arith

-- at the good answer to a FETCH, it is the first nonce of the STORE that follows
pub nonce_here : (v : Setting) (g n r : ℕ) → g ≡ n * (2 * trees_of v.scheme.device) + r → r < 2 * trees_of v.scheme.device
    → r % 2 ≡ 0 → nonce_at v g ≡ store_nonce v.scheme.device n (entry_tree v.scheme.device r)
nonce_here v g n r e few even =
    let d = v.scheme.device in
    let next : trees_of d - (r + 1) / 2 ≡ entry_tree d r + 1 = omega arith in
    nonce_split v g n r e few
    ∙ ap (λ k. formatted d + n * buckets_below d (trees_of d) + (buckets_below d (trees_of d) - buckets_below d k)) next

-- before any good answer, it is the first nonce after the formatting
pub nonce_new : (v : Setting) → 0 < trees_of v.scheme.device → nonce_at v 0 ≡ formatted v.scheme.device
nonce_new v some =
    let d = v.scheme.device in
    let all : trees_of d - (0 + 1) / 2 ≡ trees_of d = omega arith in
    nonce_split v 0 0 0 (omega arith) (omega arith)
    ∙ ap (λ k. formatted d + 0 * buckets_below d (trees_of d) + (buckets_below d (trees_of d) - buckets_below d k)) all
    ∙ omega arith
