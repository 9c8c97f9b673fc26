-- The keystream block by block, as the generator fills it.
use Rattle.std.proofs.Common.{◌≡◌, ℕ, zero, suc, ◌+◌, ◌-◌, ◌*◌, ◌/◌, ◌%◌, ◌^◌, ◌<◌, ◌≤◌, List, [], ◌∷◌, ◌++◌, length, get_or, take, drop, refl, sym, ap, ◌∙◌, arith, inl, inr, append_assoc}
use Rattle.std.proofs.lemmas.Bool.{cases_lt}
use Rattle.std.proofs.Math.Nat.{div-one}
use Rattle.std.proofs.Math.Seq.{get_or-append_right, take-append_seam}
use Rattle.std.proofs.lemmas.List.{get_or_append_left, length-append, take_all, drop-drop, append-nil, take-append-drop, length-take-le, length-drop}
use Rattle.std.specs.Int.{w32, to_le_bytes}
use Rattle.std.specs.Int.Bits.{bit_xor}
use Rattle.std.specs.Simd.Lanes.{zip2}
use Rattle.std.specs.Simd.{first_chunks}
use Rattle.rand_core.specs.Steps.{word_bytes}
use lib.Lanes.{Each1, number_l, digits_l}
use Rattle.std.specs.List.{flat_map}
use Rattle.rand_chacha.specs.ChaCha.{ChaCha, next_word, word_at}
use Rattle.oram_bucket.specs.Keystream.{next_words, key_byte, xored_from}
use Rattle.oram_bucket.specs.ChaChaLaws.{length-xored}

-- the generator of a key and a nonce, at a given word of its stream
abbrev pub generator_at : List ℕ → ℕ → ℕ → ChaCha
generator_at key nonce pos = record { key = key; stream = nonce; word_pos = pos }

-- a byte of a word
key_byte_in : (key : List ℕ) (nonce w r : ℕ) → r < 4 → get_or (to_le_bytes w32 (word_at 10 key nonce w)) r 0 ≡ key_byte key nonce (4 * w + r)
unfolding key_byte
key_byte_in key nonce w r h =
    let word = λ (p : ℕ). word_at 10 key nonce p in
    let place : (4 * w + r) / 4 ≡ w = omega arith in
    let part : (4 * w + r) % 4 ≡ r = omega arith in
    rw (place, part) (of_byte (word w) r h)
  where
    of_byte : (n k : ℕ) → k < 4 → get_or (to_le_bytes w32 n) k 0 ≡ n / 256 ^ k % 256
    of_byte n zero h = ap (λ (m : ℕ). m % 256) (sym (div-one n))
    of_byte n (suc zero) h = refl
    of_byte n (suc (suc zero)) h = refl
    of_byte n (suc (suc (suc zero))) h = refl
    of_byte n (suc (suc (suc (suc k)))) h = absurd (omega arith)

length-word : (n : ℕ) → length (to_le_bytes w32 n) ≡ 4
length-word n = refl

-- taking k words moves the generator k words on
words_on : (key : List ℕ) (nonce pos k : ℕ) → pos + k < 2 ^ 68 → (next_words k (generator_at key nonce pos)).1 ≡ generator_at key nonce (pos + k)
unfolding word_bytes
words_on key nonce pos zero h = ap (generator_at key nonce) (omega arith)
words_on key nonce pos (suc k) h =
    let before = words_on key nonce pos k (omega arith) in
    let place : (pos + k + 1) % 2 ^ 68 ≡ pos + suc k = omega arith in
    ap (λ (g : ChaCha). (next_word 10 g).1) before ∙ ap (generator_at key nonce) place

length-words : (key : List ℕ) (nonce pos k : ℕ) → length (next_words k (generator_at key nonce pos)).0 ≡ 4 * k
unfolding word_bytes
length-words key nonce pos zero = refl
length-words key nonce pos (suc k) =
    let before = word_bytes (to_le_bytes w32) (next_word 10) k (generator_at key nonce pos) in
    omega (arith, length-append before.0 (to_le_bytes w32 (next_word 10 before.1).0), length-word (next_word 10 before.1).0, length-words key nonce pos k)

-- the bytes of the generator's k words are those of the keystream
words_are : (key : List ℕ) (nonce pos k i : ℕ) → pos + k < 2 ^ 68 → i < 4 * k
    → get_or (next_words k (generator_at key nonce pos)).0 i 0 ≡ key_byte key nonce (4 * pos + i)
unfolding word_bytes
words_are key nonce pos zero i h l = absurd (omega arith)
words_are key nonce pos (suc k) i h l =
    let before = word_bytes (to_le_bytes w32) (next_word 10) k (generator_at key nonce pos) in
    let long : length before.0 ≡ 4 * k = length-words key nonce pos k in
    let last = to_le_bytes w32 (next_word 10 before.1).0 in
    elim (cases_lt i (4 * k)) [
      | inl low ↦ get_or_append_left before.0 last 0 i (omega arith) ∙ words_are key nonce pos k i (omega arith) low
      | inr high ↦
          let place : 4 * pos + i ≡ 4 * (pos + k) + (i - 4 * k) = omega arith in
          let within : i - 4 * k < 4 = omega arith in
          get_or-append_right before.0 last i 0 (omega arith)
          ∙ ap (λ (n : ℕ). get_or last (i - n) 0) long
          ∙ ap (λ (g : ChaCha). get_or (to_le_bytes w32 (next_word 10 g).0) (i - 4 * k) 0) (words_on key nonce pos k (omega arith))
          ∙ key_byte_in key nonce (pos + k) (i - 4 * k) within
          ∙ ap (key_byte key nonce) (sym place)
    ]

-- bytes XORed lane by lane with the keystream's bytes
xored_front : (key : List ℕ) (nonce k : ℕ) (xs ys : List ℕ) → length xs ≤ length ys
    → ((i : ℕ) → i < length xs → get_or ys i 0 ≡ key_byte key nonce (k + i)) → zip2 bit_xor xs ys ≡ xored_from key nonce k xs
xored_front key nonce k [] ys same each = refl
xored_front key nonce k (x ∷ xs) [] same each = absurd (omega arith)
xored_front key nonce k (x ∷ xs) (y ∷ ys) same each =
    let here : y ≡ key_byte key nonce k = each 0 (omega arith) ∙ ap (key_byte key nonce) (omega arith) in
    let rest = xored_front key nonce (k + 1) xs ys (omega arith) (λ i h. each (suc i) (omega arith) ∙ ap (key_byte key nonce) (omega arith)) in
    ap (λ (b : ℕ). bit_xor x b ∷ zip2 bit_xor xs ys) here ∙ ap (λ (r : List ℕ). bit_xor x (key_byte key nonce k) ∷ r) rest

xored-append : (key : List ℕ) (nonce k : ℕ) (xs ys : List ℕ) → xored_from key nonce k (xs ++ ys) ≡ xored_from key nonce k xs ++ xored_from key nonce (k + length xs) ys
xored-append key nonce k [] ys = ap (λ (n : ℕ). xored_from key nonce n ys) (omega arith)
xored-append key nonce k (x ∷ xs) ys =
    ap (λ (r : List ℕ). bit_xor x (key_byte key nonce k) ∷ r) (xored-append key nonce (k + 1) xs ys
    ∙ ap (λ (n : ℕ). xored_from key nonce (k + 1) xs ++ xored_from key nonce n ys) (omega arith))

-- block i of the blocks that a list is cut into
pub get_or-first_chunks : (n k i : ℕ) (xs d : List ℕ) → i < k → get_or (first_chunks n k xs) i d ≡ take n (drop (n * i) xs)
get_or-first_chunks n zero i xs d h = absurd (omega arith)
get_or-first_chunks n (suc k) zero xs d h = let start : n * 0 ≡ 0 = omega arith in rw start refl
get_or-first_chunks n (suc k) (suc i) xs d h =
    let place : n + n * i ≡ n * suc i = omega arith in
    get_or-first_chunks n k i (drop n xs) d (omega arith) ∙ ap (take n) (drop-drop (n * i) n xs ∙ ap (λ (m : ℕ). drop m xs) place)

-- XORing lane by lane with the generator's words is XORing with the keystream
xored_words : (key : List ℕ) (nonce i : ℕ) (block : List ℕ) → 16 * i + 16 < 2 ^ 68 → length block ≡ 64
    → zip2 bit_xor block (next_words 16 (generator_at key nonce (16 * i))).0 ≡ xored_from key nonce (64 * i) block
xored_words key nonce i block fits long =
    let words = (next_words 16 (generator_at key nonce (16 * i))).0 in
    let all : length words ≡ 64 = length-words key nonce (16 * i) 16 in
    let place : 4 * (16 * i) ≡ 64 * i = omega arith in
    xored_front key nonce (64 * i) block words (omega (arith, all, long)) (λ k h. words_are key nonce (16 * i) 16 k (omega arith) (omega (arith, long)) ∙ ap (λ (m : ℕ). key_byte key nonce (m + k)) place)

-- one XORed block: its bytes, and the generator one block further on
pub record IsXored (key : List ℕ) (nonce i : ℕ) (block xored : List ℕ) (after : ChaCha) : Type 0 where
  pub value : xored ≡ xored_from key nonce (64 * i) block
  pub later : after ≡ generator_at key nonce (16 * (i + 1))

pub is_xored : (key : List ℕ) (nonce i : ℕ) (block xored : List ℕ) (before after : ChaCha) → 16 * i + 16 < 2 ^ 68 → length block ≡ 64
    → before ≡ generator_at key nonce (16 * i) → xored ≡ zip2 bit_xor block (next_words 16 before).0 → after ≡ (next_words 16 before).1
    → IsXored key nonce i block xored after
is_xored key nonce i block xored before after fits long was value later =
    let place : 16 * i + 16 ≡ 16 * (i + 1) = omega arith in
    record {
      value = value ∙ ap (λ (g : ChaCha). zip2 bit_xor block (next_words 16 g).0) was ∙ xored_words key nonce i block fits long;
      later = later ∙ ap (λ (g : ChaCha). (next_words 16 g).1) was ∙ words_on key nonce (16 * i) 16 fits ∙ ap (generator_at key nonce) place;
    }

-- a list XORed, block by block
pub joined : (key : List ℕ) (nonce i : ℕ) (block xored rest more : List ℕ) → length block ≡ 64 → xored ≡ xored_from key nonce (64 * i) block
    → more ≡ xored_from key nonce (64 * (i + 1)) rest → xored ++ more ≡ xored_from key nonce (64 * i) (block ++ rest)
joined key nonce i block xored rest more long first then_more =
    let place : 64 * i + length block ≡ 64 * (i + 1) = omega arith in
    ap (λ (x : List ℕ). x ++ more) first ∙ ap (λ (x : List ℕ). xored_from key nonce (64 * i) block ++ x) then_more
    ∙ ap (λ (m : ℕ). xored_from key nonce (64 * i) block ++ xored_from key nonce m rest) (sym place)
    ∙ sym (xored-append key nonce (64 * i) block rest)

-- a run consists of its four blocks
pub quarters : (run : List ℕ) → length run ≡ 256
    → take 64 run ++ (take 64 (drop 64 run) ++ (take 64 (drop 128 run) ++ (take 64 (drop 192 run) ++ []))) ≡ run
quarters run long =
    let from = λ (n : ℕ). drop n run in
    let last : take 64 (from 192) ++ [] ≡ from 192 = append-nil (take 64 (from 192)) ∙ take_all 64 (from 192) (omega (arith, length-drop 192 run, long)) in
    let third : take 64 (from 128) ++ from 192 ≡ from 128 = ap (λ (r : List ℕ). take 64 (from 128) ++ r) (sym (drop-drop 64 128 run)) ∙ take-append-drop 64 (from 128) in
    let second : take 64 (from 64) ++ from 128 ≡ from 64 = ap (λ (r : List ℕ). take 64 (from 64) ++ r) (sym (drop-drop 64 64 run)) ∙ take-append-drop 64 (from 64) in
    ap (λ (r : List ℕ). take 64 run ++ (take 64 (from 64) ++ (take 64 (from 128) ++ r))) last
    ∙ ap (λ (r : List ℕ). take 64 run ++ (take 64 (from 64) ++ r)) third
    ∙ ap (λ (r : List ℕ). take 64 run ++ r) second
    ∙ take-append-drop 64 run

-- no word yet
pub no_words : (g : ChaCha) → next_words 0 g ≡ ([], g)
unfolding word_bytes
no_words g = refl

-- one more word
pub word_more : (k : ℕ) (g h later : ChaCha) (bytes : List ℕ) (word : ℕ) → next_words k g ≡ (bytes, h) → (word, later) ≡ next_word 10 h
    → next_words (suc k) g ≡ (bytes ++ to_le_bytes w32 word, later)
unfolding word_bytes
word_more k g h later bytes word before now =
    ap (λ (p : List ℕ × ChaCha). (p.0 ++ to_le_bytes w32 (next_word 10 p.1).0, (next_word 10 p.1).1)) before
    ∙ ap (λ (q : ℕ × ChaCha). (bytes ++ to_le_bytes w32 q.0, q.1)) (sym now)

-- the bytes of words in lanes
pub lanes_are : (words : List ℕ) → Each1 (λ w. w < 2 ^ 32) words → digits_l 256 (4 * length words) (number_l (2 ^ 32) words) ≡ flat_map (to_le_bytes w32) words
lanes_are [] each = refl
lanes_are (w ∷ ws) each = first w (number_l (2 ^ 32) ws) (4 * length ws) _ _ (omega arith) each.0 (lanes_are ws each.1)
  where
    first : (x r n m : ℕ) (rest : List ℕ) → m ≡ suc (suc (suc (suc n))) → x < 2 ^ 32 → digits_l 256 n r ≡ rest → digits_l 256 m (x + 2 ^ 32 * r) ≡ to_le_bytes w32 x ++ rest
    first x r n m rest size small is =
        let y = x + 2 ^ 32 * r in
        let byte0 : y % 256 ≡ x % 256 = omega arith in
        let byte1 : y / 256 % 256 ≡ x / 256 ^ 1 % 256 = omega arith in
        let byte2 : y / 256 / 256 % 256 ≡ x / 256 ^ 2 % 256 = omega arith in
        let byte3 : y / 256 / 256 / 256 % 256 ≡ x / 256 ^ 3 % 256 = omega arith in
        let over : y / 256 / 256 / 256 / 256 ≡ r = omega arith in
        ap (λ (k : ℕ). digits_l 256 k y) size
        ∙ (λ i. byte0 i ∷ byte1 i ∷ byte2 i ∷ byte3 i ∷ digits_l 256 n (over i))
        ∙ ap (λ (l : List ℕ). to_le_bytes w32 x ++ l) is

-- a run has 256 bytes, and so has an XORed run
pub run_long : (key : List ℕ) (nonce i : ℕ) (bytes run xored : List ℕ) → 256 * (i + 1) ≤ length bytes → run ≡ take 256 (drop (256 * i) bytes)
    → xored ≡ xored_from key nonce (256 * i) run → length xored ≡ 256
run_long key nonce i bytes run xored fits is value =
    ap length value ∙ length-xored key nonce (256 * i) run ∙ ap length is ∙ length-take-le 256 (drop (256 * i) bytes) (omega (arith, length-drop (256 * i) bytes))

-- one more run XORed
pub run_more : (key : List ℕ) (nonce i : ℕ) (bytes out all run xored : List ℕ) → 256 * (i + 1) ≤ length bytes
    → out ++ xored_from key nonce (256 * i) (drop (256 * i) bytes) ≡ all → run ≡ take 256 (drop (256 * i) bytes) → xored ≡ xored_from key nonce (256 * i) run
    → (out ++ xored) ++ xored_from key nonce (256 * (i + 1)) (drop (256 * (i + 1)) bytes) ≡ all
run_more key nonce i bytes out all run xored fits so_far is next =
    let rest = drop (256 * i) bytes in
    let place : 256 * i + 256 ≡ 256 * (i + 1) = omega arith in
    let long : length run ≡ 256 = ap length is ∙ length-take-le 256 rest (omega (arith, length-drop (256 * i) bytes)) in
    let after : drop (256 * (i + 1)) bytes ≡ drop 256 rest = ap (λ (m : ℕ). drop m bytes) (sym place) ∙ sym (drop-drop 256 (256 * i) bytes) in
    let parts : run ++ drop 256 rest ≡ rest = ap (λ (b : List ℕ). b ++ drop 256 rest) is ∙ take-append-drop 256 rest in
    let there : 256 * i + length run ≡ 256 * (i + 1) = omega arith in
    let joined : xored_from key nonce (256 * i) rest ≡ xored ++ xored_from key nonce (256 * (i + 1)) (drop (256 * (i + 1)) bytes) =
    ap (xored_from key nonce (256 * i)) (sym parts) ∙ xored-append key nonce (256 * i) run (drop 256 rest)
    ∙ ap (λ (b : List ℕ). b ++ xored_from key nonce (256 * i + length run) (drop 256 rest)) (sym next)
    ∙ ap (λ (m : ℕ). xored ++ xored_from key nonce m (drop 256 rest)) there
    ∙ ap (λ (r : List ℕ). xored ++ xored_from key nonce (256 * (i + 1)) r) (sym after) in
    append_assoc out xored _ ∙ ap (λ (r : List ℕ). out ++ r) (sym joined) ∙ so_far

-- the front of a list, XORed
pub take-xored : (key : List ℕ) (nonce k n : ℕ) (xs : List ℕ) → take n (xored_from key nonce k xs) ≡ xored_from key nonce k (take n xs)
take-xored key nonce k zero xs = refl
take-xored key nonce k (suc n) [] = refl
take-xored key nonce k (suc n) (x ∷ xs) = ap (λ (r : List ℕ). bit_xor x (key_byte key nonce k) ∷ r) (take-xored key nonce (k + 1) n xs)

-- the front of a list whose front was overwritten
pub front_of : (xs ys zs : List ℕ) → ys ≡ xs → take (length xs) (ys ++ zs) ≡ xs
front_of xs ys zs same = ap (λ (l : List ℕ). take (length xs) (l ++ zs)) same ∙ take-append_seam xs zs

-- the bytes that don't fill a run, XORed as the front of a run
pub rest_more : (key : List ℕ) (nonce i : ℕ) (bytes out all rest run xored : List ℕ) → rest ≡ drop (256 * i) bytes
    → out ++ xored_from key nonce (256 * i) (drop (256 * i) bytes) ≡ all → xored ≡ xored_from key nonce (256 * i) run → take (length rest) run ≡ rest
    → out ++ take (length rest) xored ≡ all
rest_more key nonce i bytes out all rest run xored is so_far value front =
    ap (λ (x : List ℕ). out ++ take (length rest) x) value
    ∙ ap (λ (x : List ℕ). out ++ x) (take-xored key nonce (256 * i) (length rest) run ∙ ap (xored_from key nonce (256 * i)) (front ∙ is))
    ∙ so_far
