-- Where the paths of two leaves meet.
use Rattle.std.proofs.Common.{◌≡◌, ℕ, ◌+◌, ◌-◌, ◌/◌, ◌^◌, ◌<◌, ◌≤◌, ◌↔◌, sym, ap, subst, inl, inr, ◌∙◌, arith}
use Rattle.std.proofs.lemmas.Bool.{cases_lt}
use Rattle.std.proofs.Math.Nat.{div-div-eq-div-mul, div-eq_of_lt}
use Rattle.std.proofs.lemmas.Nat.{pow-add}
use Rattle.oram_geometry.specs.Path.{MeetsAt}

-- the node at a level nearer the root is a quotient of the one below it
pub quotient_up : (deep x k l : ℕ) → k ≤ l → l ≤ deep → x / 2 ^ (deep - k) ≡ x / 2 ^ (deep - l) / 2 ^ (l - k)
quotient_up deep x k l le within =
    let parts : deep - k ≡ (deep - l) + (l - k) = omega arith in
    ap (λ n. x / 2 ^ n) parts ∙ ap (λ n. x / n) (pow-add 2 (deep - l) (l - k)) ∙ sym (div-div-eq-div-mul x (2 ^ (deep - l)) (2 ^ (l - k)))

-- paths that meet at a level meet at every level nearer the root
pub MeetsAt-nearer : (deep x y k l : ℕ) → k ≤ l → l ≤ deep → MeetsAt deep x y l → MeetsAt deep x y k
MeetsAt-nearer deep x y k l le within meets = quotient_up deep x k l le within ∙ ap (λ n. n / 2 ^ (l - k)) meets ∙ sym (quotient_up deep y k l le within)

-- going one level up halves once
pub halved : (deep x l : ℕ) → 0 < l → l ≤ deep → x / 2 ^ (deep - (l - 1)) ≡ x / 2 ^ (deep - l) / 2
halved deep x l some within =
    let one : l - (l - 1) ≡ 1 = omega arith in
    quotient_up deep x (l - 1) l (omega arith) within ∙ ap (λ n. x / 2 ^ (deep - l) / 2 ^ n) one

-- two paths that meet at level l and at none below it meet at exactly the levels up to l
pub meets_up_to : (deep x y l : ℕ) → l ≤ deep → MeetsAt deep x y l → ((k : ℕ) → l < k → k ≤ deep → MeetsAt deep x y k → ⊥) → (k : ℕ) → k ≤ deep → MeetsAt deep x y k ↔ (k ≤ l)
meets_up_to deep x y l within meets apart k le = (λ here. elim (cases_lt l k) as (λ _. k ≤ l) [ inl below ↦ absurd (apart k below le here) | inr at_most ↦ at_most ], λ nearer. MeetsAt-nearer deep x y k l nearer within meets)

-- at the root all paths meet
pub root_meets : (deep x y : ℕ) → x < 2 ^ deep → y < 2 ^ deep → MeetsAt deep x y 0
root_meets deep x y x_in y_in = let e : deep - 0 ≡ deep = omega arith in rw e (div-eq_of_lt x_in ∙ sym (div-eq_of_lt y_in))

-- one more level at which the paths are apart
pub apart_more : (deep x y l : ℕ) → l ≤ deep → (MeetsAt deep x y l → ⊥) → ((k : ℕ) → l < k → k ≤ deep → MeetsAt deep x y k → ⊥) → (k : ℕ) → l - 1 < k → k ≤ deep → MeetsAt deep x y k → ⊥
apart_more deep x y l within here apart k above le meets = elim (cases_lt l k) [ inl below ↦ apart k below le meets | inr at_most ↦ here (let e : k ≡ l = omega arith in subst (MeetsAt deep x y) e meets) ]
