-- The words of a tape, one after the other.
use Rattle.std.proofs.Common.{◌≡◌, ℕ, ◌+◌, ◌*◌, ◌%◌, ◌^◌, ◌∷◌, ◌++◌, [], List, sym, ap, ◌∙◌, arith}
use Rattle.std.proofs.lemmas.List.FromFn.{map-range_with_len_more}
use Rattle.rand_core.specs.Steps.{u64_via_u32}
use Rattle.rand_chacha.specs.ChaCha.{ChaCha, next_word, word_at, key_of}
use Rattle.oram_session.specs.Tapes.{word_from, chacha_words}

-- the generator of a key at an index of stream 0
abbrev pub generator_at : List ℕ → ℕ → ChaCha
generator_at key place = record { key = key_of key; stream = 0; word_pos = place % 2 ^ 68 }

next_place : (p : ℕ) → (p % 2 ^ 68 + 1) % 2 ^ 68 ≡ (p + 1) % 2 ^ 68
next_place p = omega arith

-- a pair of words at an index
pair_at : (key : List ℕ) (p : ℕ) → u64_via_u32 (next_word 10) (generator_at key p) ≡ (word_from key p, generator_at key (p + 2))
pair_at key p =
    let one = next_place p in
    let two : ((p % 2 ^ 68 + 1) % 2 ^ 68 + 1) % 2 ^ 68 ≡ (p + 2) % 2 ^ 68 = omega arith in
    ap (λ (n : ℕ).
    let answer : ℕ × ChaCha = (
      word_at 10 (key_of key) 0 (p % 2 ^ 68) + word_at 10 (key_of key) 0 n * 2 ^ 32,
      record { key = key_of key; stream = 0; word_pos = ((p % 2 ^ 68 + 1) % 2 ^ 68 + 1) % 2 ^ 68 },
    ) in
    answer) one
    ∙ ap (λ (n : ℕ).
    let answer : ℕ × ChaCha = (word_from key p, record { key = key_of key; stream = 0; word_pos = n }) in
    answer) two

-- one more word of a ticket
pub next_drawn : (key : List ℕ) (trees ticket j word : ℕ) (now after : ChaCha) (before drawn : List ℕ) →
    now ≡ generator_at key (4 * trees * ticket + 2 * j) → (word, after) ≡ u64_via_u32 (next_word 10) now →
    before ≡ chacha_words key trees ticket j → drawn ≡ before ++ word ∷ [] →
    (drawn ≡ chacha_words key trees ticket (j + 1)) × (after ≡ generator_at key (4 * trees * ticket + 2 * (j + 1)))
next_drawn key trees ticket j word now after before drawn here step so_far more =
    let place = 4 * trees * ticket + 2 * j in
    let pair : ◌≡◌ {A = ℕ × ChaCha} (word, after) (word_from key place, generator_at key (place + 2)) =
    step ∙ ap (λ (g : ChaCha). u64_via_u32 (next_word 10) g) here ∙ pair_at key place in
    let on : place + 2 ≡ 4 * trees * ticket + 2 * (j + 1) = omega arith in
    let longer = map-range_with_len_more (λ i. word_from key (4 * trees * ticket + 2 * i)) 0 j j (omega arith) in (
      more ∙ ap (λ (xs : List ℕ). xs ++ word ∷ []) so_far
          ∙ ap (λ (x : ℕ). chacha_words key trees ticket j ++ x ∷ []) (ap (λ (r : ℕ × ChaCha). r.0) pair) ∙ sym longer,
      ap (λ (r : ℕ × ChaCha). r.1) pair ∙ ap (generator_at key) on,
    )
