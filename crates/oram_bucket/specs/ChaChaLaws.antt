-- The laws of a sealer hold for ChaCha20.
use Rattle.std.proofs.Common.{◌≡◌, ℕ, suc, ◌+◌, ◌^◌, ◌<◌, ◌≤◌, List, [], ◌∷◌, length, Some, refl, ap, ◌∙◌, arith}
use Rattle.std.proofs.lemmas.Bool.{le-ltb}
use Rattle.std.proofs.lemmas.Nat.{from_be_bytes-to_be_bytes_8}
use Rattle.std.specs.Int.Bits.{bit_xor, xor_assoc, xor_self, xor_zero_r}
use Rattle.rand_chacha.specs.ChaCha.{key_of}
use Rattle.oram_bucket.specs.Keystream.{key_byte, xored_from, chacha_sealing, chacha_opening}

pub length-xored : (key : List ℕ) (nonce k : ℕ) (xs : List ℕ) → length (xored_from key nonce k xs) ≡ length xs
length-xored key nonce k [] = refl
length-xored key nonce k (x ∷ xs) = ap suc (length-xored key nonce (k + 1) xs)

-- XORing a byte twice gives the byte back
xor_twice : (x y : ℕ) → bit_xor (bit_xor x y) y ≡ x
xor_twice x y = xor_assoc x y y ∙ ap (bit_xor x) (xor_self y) ∙ xor_zero_r x

xored-xored : (key : List ℕ) (nonce k : ℕ) (xs : List ℕ) → xored_from key nonce k (xored_from key nonce k xs) ≡ xs
xored-xored key nonce k [] = refl
xored-xored key nonce k (x ∷ xs) =
    ap (λ (y : ℕ). y ∷ xored_from key nonce (k + 1) (xored_from key nonce (k + 1) xs)) (xor_twice x (key_byte key nonce k))
    ∙ ap (λ (ys : List ℕ). x ∷ ys) (xored-xored key nonce (k + 1) xs)

pub chacha_longer : (seed : List ℕ) (nonce : ℕ) (plain : List ℕ) → length (chacha_sealing seed nonce plain) ≡ 8 + length plain
chacha_longer seed nonce plain = omega (arith, length-xored (key_of seed) nonce 0 plain)

pub chacha_undoes : (seed : List ℕ) (nonce : ℕ) (plain : List ℕ) → nonce < 2 ^ 64 → chacha_opening seed (chacha_sealing seed nonce plain) ≡ Some plain
chacha_undoes seed nonce plain small =
    let long : 8 ≤ length (chacha_sealing seed nonce plain) = omega (arith, chacha_longer seed nonce plain) in
    rw (le-ltb (length (chacha_sealing seed nonce plain)) 8 long)
    (ap (λ (n : ℕ). Some (xored_from (key_of seed) n 0 (xored_from (key_of seed) nonce 0 plain))) (from_be_bytes-to_be_bytes_8 nonce small)
    ∙ ap (λ (xs : List ℕ). Some xs) (xored-xored (key_of seed) nonce 0 plain))
