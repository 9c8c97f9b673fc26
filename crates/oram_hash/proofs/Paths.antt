use Rattle.std.proofs.Common.{◌≡◌, ℕ, ◌+◌, ◌-◌, ◌*◌, ◌/◌, ◌%◌, ◌^◌, ◌<◌, inl, inr, refl, sym, arith, zero, suc, ap, ◌∙◌, List, length, take, slice_range, Bool, true, false, nat_eq}
use Rattle.std.proofs.lemmas.Bool.{cases_eq}
use Rattle.std.proofs.lemmas.Nat.{pow-add, pow_pos}
use Rattle.std.proofs.lemmas.Slice.Eq.{bytes_eq-Decides}
use Rattle.std.specs.Str.{bytes_eq}
use Rattle.std.specs.Prelude.{IsTrue, ◌↔◌}
use Rattle.oram_geometry.specs.Path.{node_on}
use Rattle.oram_hash.specs.Record.{left_digest, right_digest, sealed_part, is_left_child}
use Rattle.oram_hash.specs.Path.{Path, record_at, node_at, digest_for, expected}

pub record_at-slice : (p : Path) (level a b : ℕ) → a ≡ level * p.record_len → b ≡ p.record_len → slice_range p.bytes a (a + b) ≡ record_at p level
unfolding record_at
record_at-slice p level a b at len =
    let width : a + b - a ≡ p.record_len = omega arith in
    rw (width, at) refl

parity : (w q n : ℕ) → 0 < w → n ≡ w * 2 - 1 + q → nat_eq (n % 2) 1 ≡ nat_eq (q % 2) 0
parity w q n pos e = elim (cases_eq (q % 2) 0) [
  | inl even ↦ let odd : n % 2 ≡ 1 = omega arith in rw (even, odd) refl
  | inr odd ↦
      let one : q % 2 ≡ 1 = omega arith in
      let even : n % 2 ≡ 0 = omega arith in
      rw (one, even) refl
]

-- below the root, a path's node is a left child if the leaf's quotient at its level is even
pub is_left_child-node_on : (depth leaf level : ℕ) → 0 < level → is_left_child (node_on depth leaf level) ≡ nat_eq (leaf / 2 ^ (depth - level) % 2) 0
unfolding is_left_child node_on
is_left_child-node_on depth leaf level pos =
    let up : level ≡ level - 1 + 1 = omega arith in
    let twice : 2 ^ level ≡ 2 ^ (level - 1) * 2 = ap (λ (k : ℕ). 2 ^ k) up ∙ pow-add 2 (level - 1) 1 in
    parity (2 ^ (level - 1)) (leaf / 2 ^ (depth - level)) _ (pow_pos (level - 1)) (ap (λ (w : ℕ). w - 1 + leaf / 2 ^ (depth - level)) twice)

pub sealed_part-slice : (r : List ℕ) → take (length r - 64) r ≡ sealed_part r
unfolding sealed_part
sealed_part-slice r = refl

pub left_digest-slice : (r : List ℕ) → slice_range r (length r - 64) (length r - 32) ≡ left_digest r
unfolding left_digest
left_digest-slice r = refl

pub right_digest-slice : (r : List ℕ) → slice_range r (length r - 32) (length r) ≡ right_digest r
unfolding right_digest
right_digest-slice r = refl

pub digest_for-left : (r : List ℕ) (child : ℕ) → is_left_child child ≡ true → digest_for r child ≡ left_digest r
unfolding digest_for
digest_for-left r child e = rw e refl

pub digest_for-right : (r : List ℕ) (child : ℕ) → is_left_child child ≡ false → digest_for r child ≡ right_digest r
unfolding digest_for
digest_for-right r child e = rw e refl

pub expected-root : (p : Path) (root : List ℕ) (level : ℕ) → level ≡ 0 → expected p root level ≡ root
unfolding expected
expected-root p root level e = rw e refl

pub expected-below : (p : Path) (root : List ℕ) (level : ℕ) → 0 < level → expected p root level ≡ digest_for (record_at p (level - 1)) (node_at p level)
unfolding expected
expected-below p root zero pos = absurd (omega arith)
expected-below p root (suc level) pos =
    let down : suc level - 1 ≡ level = omega arith in
    let same : suc level ≡ level + 1 = omega arith in
    rw (down, same) refl

pub genuine_test : (xs ys d e : List ℕ) (r : Bool) → r ≡ bytes_eq xs ys → xs ≡ d → ys ≡ e → IsTrue r ↔ (d ≡ e)
genuine_test xs ys d e r test left right =
    let decides = bytes_eq-Decides xs ys in
    (λ yes. sym left ∙ decides.0 (sym test ∙ yes) ∙ right, λ same. test ∙ decides.1 (left ∙ same ∙ sym right))
