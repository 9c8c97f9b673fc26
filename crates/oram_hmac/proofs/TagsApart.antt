-- Texts, messages and keys that differ.
use Rattle.std.proofs.Common.{◌≡◌, ◌≢◌, ℕ, ◌-◌, ◌≤◌, ◌⊎◌, inl, inr, List, [], ◌∷◌, length, map, replicate, bit_xor, refl, sym, ap, ◌∙◌, arith, length-append}
use Rattle.std.proofs.lemmas.List.{length-map, length-replicate}
use Rattle.std.proofs.lemmas.Bool.{le-leb}
use Rattle.std.proofs.lemmas.Bool.{cases_eq}
use Rattle.std.specs.Int.Bits.{xor_assoc, xor_self, xor_zero_r}
use Rattle.sha2.specs.Sha256.{sha256}
use Rattle.oram_hmac.specs.Hmac.{hmac, inner_text, key_block, masked_key, outer_text, padded}
use Rattle.oram_hmac.specs.Laws.{KeysHaveTagsOfTheirOwn, MessagesHaveTagsOfTheirOwn}
use Rattle.oram_hmac.proofs.SameBytes.{parts_same}

pub same_list : (xs ys : List ℕ) → (xs ≡ ys) ⊎ (xs ≢ ys)
same_list [] [] = inl refl
same_list [] (y ∷ ys) = inr (λ (e : [] ≡ y ∷ ys). cc)
same_list (x ∷ xs) [] = inr (λ (e : x ∷ xs ≡ []). cc)
same_list (x ∷ xs) (y ∷ ys) =
    elim (cases_eq x y) [
      | inl head ↦ elim (same_list xs ys) [
        | inl tail ↦ inl (cc)
        | inr other ↦ inr (λ (e : x ∷ xs ≡ y ∷ ys). other (cc))
      ]
      | inr other ↦ inr (λ (e : x ∷ xs ≡ y ∷ ys). other (cc))
    ]

pub messages_apart : MessagesHaveTagsOfTheirOwn
unfolding hmac inner_text outer_text
messages_apart key message message' differ =
    elim (same_list (hmac key message) (hmac key message')) [
      | inr other ↦ inl other
      | inl same ↦ elim (same_list (outer_text key message) (outer_text key message')) [
        | inr outer ↦ inr (inr (record { differ = outer; same = same }))
        | inl outer ↦
            let digests = parts_same (masked_key 0x5c key) (sha256 (inner_text key message)) (masked_key 0x5c key) (sha256 (inner_text key message')) refl outer in
            inr (inl (record {
              differ = λ (e : inner_text key message ≡ inner_text key message').
                  differ (parts_same (masked_key 0x36 key) message (masked_key 0x36 key) message' refl e).1;
              same = digests.1;
            }))
      ]
    ]

-- masking twice gives the bytes back
mask_twice : (byte : ℕ) (xs : List ℕ) → map (λ b. bit_xor b byte) (map (λ b. bit_xor b byte) xs) ≡ xs
mask_twice byte [] = refl
mask_twice byte (x ∷ xs) =
    let back : bit_xor (bit_xor x byte) byte ≡ x = xor_assoc x byte byte ∙ ap (bit_xor x) (xor_self byte) ∙ xor_zero_r x in
    ap (λ (y : ℕ). y ∷ map (λ b. bit_xor b byte) (map (λ b. bit_xor b byte) xs)) back ∙ ap (λ (ys : List ℕ). x ∷ ys) (mask_twice byte xs)

short_block : (key : List ℕ) → length key ≤ 64 → key_block key ≡ padded key
short_block key short = rw (le-leb (length key) 64 short) refl

length-masked : (byte : ℕ) (key : List ℕ) → length key ≤ 64 → length (masked_key byte key) ≡ 64
length-masked byte key short =
    ap (λ (b : List ℕ). length (map (λ b. bit_xor b byte) b)) (short_block key short)
    ∙ length-map (padded key) (λ b. bit_xor b byte)
    ∙ omega (arith, length-append key (replicate (64 - length key) 0), length-replicate {A = ℕ} (64 - length key) 0)

pub keys_apart : KeysHaveTagsOfTheirOwn
unfolding hmac outer_text
keys_apart key key' message message' lengths short differ =
    elim (same_list (hmac key message) (hmac key' message')) [
      | inr other ↦ inl other
      | inl same ↦
          let short' : length key' ≤ 64 = omega (arith, lengths, short) in
          let long : length (masked_key 0x5c key) ≡ length (masked_key 0x5c key') = length-masked 0x5c key short ∙ sym (length-masked 0x5c key' short') in
          inr (record {
            differ = λ (e : outer_text key message ≡ outer_text key' message').
                let masks = parts_same (masked_key 0x5c key) (sha256 (inner_text key message)) (masked_key 0x5c key') (sha256 (inner_text key' message')) long e in
                let blocks : key_block key ≡ key_block key' =
                sym (mask_twice 0x5c (key_block key)) ∙ ap (map (λ b. bit_xor b 0x5c)) masks.0 ∙ mask_twice 0x5c (key_block key') in
                differ (parts_same key (replicate (64 - length key) 0) key' (replicate (64 - length key') 0) lengths
                (sym (short_block key short) ∙ blocks ∙ short_block key' short')).0;
            same = same;
          })
    ]
