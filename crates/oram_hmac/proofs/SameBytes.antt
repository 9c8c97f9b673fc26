-- Bytes of two tags, one after the other.
use Rattle.std.proofs.Common.{◌≡◌, ◌≢◌, ◌==◌, MatchBool, Bool, subst, inl, inr, ◌≤◌, ℕ, ◌+◌, ◌<◌, ◌↔◌, List, [], ◌∷◌, ◌++◌, length, take, drop, get_or, map, replicate, refl, sym, ap, ◌∙◌, arith, bit_or, bit_xor}
use Rattle.std.proofs.lemmas.List.{take_more, take_more_set, take_at, drop_at, take_all, map-append, drop-replicate}
use Rattle.std.proofs.lemmas.Bool.Decides.{eqb_tells}
use Rattle.std.proofs.lemmas.Grind.{common_steps}
use Rattle.std.proofs.lemmas.Nat.{le_or_l, le_or_r}
use Rattle.std.proofs.Math.ListN.{set}
use Rattle.oram_hmac.specs.Hmac.{padded}
use Rattle.std.specs.Int.Bits.{or_zero_l, xor_assoc, xor_self, xor_zero_r}

-- the parts of a text whose first part has the same length
pub parts_same : (a r b t : List ℕ) → length a ≡ length b → a ++ r ≡ b ++ t → (a ≡ b) × (r ≡ t)
parts_same a r b t long e = (
  sym (take_at a r (length a) refl) ∙ ap (take (length a)) e ∙ take_at b t (length a) (sym long),
  sym (drop_at a r (length a) refl) ∙ ap (drop (length a)) e ∙ drop_at b t (length a) (sym long),
)

-- a bitwise or is 0 only if both numbers are
or_is_zero : (a b : ℕ) → bit_or a b ≡ 0 → (a ≡ 0) × (b ≡ 0)
or_is_zero a b e = (omega (arith, le_or_l a b, e), omega (arith, le_or_r a b, e))

-- numbers whose XOR is 0 are the same
xor_is_zero : (a b : ℕ) → bit_xor a b ≡ 0 → a ≡ b
xor_is_zero a b e =
    sym (xor_zero_r a) ∙ ap (bit_xor a) (sym (xor_self b)) ∙ sym (xor_assoc a b b) ∙ ap (λ (n : ℕ). bit_xor n b) e

-- one more byte of both
pub same_more : (one other : List ℕ) (i difference : ℕ) → i < length one → i < length other → (difference ≡ 0) ↔ (take i one ≡ take i other)
    → (bit_or difference (bit_xor (get_or one i 0) (get_or other i 0)) ≡ 0) ↔ (take (i + 1) one ≡ take (i + 1) other)
same_more one other i difference within within' so_far = (
  λ (e : bit_or difference (bit_xor (get_or one i 0) (get_or other i 0)) ≡ 0).
      let parts = or_is_zero difference (bit_xor (get_or one i 0) (get_or other i 0)) e in
      take_more one i 0 within ∙ ap (λ (xs : List ℕ). xs ++ get_or one i 0 ∷ []) (so_far.0 parts.0)
      ∙ ap (λ (x : ℕ). take i other ++ x ∷ []) (xor_is_zero (get_or one i 0) (get_or other i 0) parts.1) ∙ sym (take_more other i 0 within'),
  λ (e : take (i + 1) one ≡ take (i + 1) other).
      let long : length (take i one) ≡ length (take i other) = grind (arith, common_steps) in
      let parts = parts_same (take i one) (get_or one i 0 ∷ []) (take i other) (get_or other i 0 ∷ []) long (sym (take_more one i 0 within) ∙ e ∙ take_more other i 0 within') in
      let last : get_or one i 0 ≡ get_or other i 0 = ap (λ (xs : List ℕ). get_or xs 0 0) parts.1 in
      ap (λ (n : ℕ). bit_or n (bit_xor (get_or one i 0) (get_or other i 0))) (so_far.1 parts.0)
      ∙ or_zero_l (bit_xor (get_or one i 0) (get_or other i 0))
      ∙ ap (λ (x : ℕ). bit_xor x (get_or other i 0)) last ∙ xor_self (get_or other i 0),
)

-- all bytes of both
pub all_same : (one other : List ℕ) (i difference : ℕ) → length one ≤ i → length other ≤ i → (difference ≡ 0) ↔ (take i one ≡ take i other)
    → MatchBool (difference == 0) (one ≡ other) (one ≢ other)
all_same one other i difference all all' so_far =
    let whole = take_all i one all in
    let whole' = take_all i other all' in
    elim (eqb_tells difference 0) [
      | inl none ↦ subst (λ (b : Bool). MatchBool b (one ≡ other) (one ≢ other)) (sym none.0) (sym whole ∙ so_far.0 none.1 ∙ whole')
      | inr some ↦ subst (λ (b : Bool). MatchBool b (one ≡ other) (one ≢ other)) (sym some.0) (λ (e : one ≡ other). some.1 (so_far.1 (whole ∙ e ∙ sym whole')))
    ]

-- one more byte of a key is masked
pub mask_more : (masked block : List ℕ) (i byte : ℕ) → i < length masked → i < length block → take i masked ≡ map (λ b. bit_xor b byte) (take i block)
    → take (i + 1) (set masked i (bit_xor (get_or block i 0) byte)) ≡ map (λ b. bit_xor b byte) (take (i + 1) block)
mask_more masked block i byte within within' so_far =
    take_more_set masked i (bit_xor (get_or block i 0) byte) within
    ∙ ap (λ (xs : List ℕ). xs ++ bit_xor (get_or block i 0) byte ∷ []) so_far
    ∙ sym (ap (map (λ b. bit_xor b byte)) (take_more block i 0 within') ∙ map-append (λ b. bit_xor b byte) (take i block) (get_or block i 0 ∷ []))

-- a key in front of zeros
pub padded_is : (key copied : List ℕ) → copied ≡ key → copied ++ drop (length key) (replicate 64 0) ≡ padded key
padded_is key copied same = ap (λ (xs : List ℕ). xs ++ drop (length key) (replicate 64 0)) same ∙ ap (λ (xs : List ℕ). key ++ xs) (drop-replicate (length key) 64 0)
