-- The bytes that a ChaCha20 sealer makes, in terms of the generator's words.
use Rattle.std.specs.Prelude.{ℕ, ◌+◌, ◌/◌, ◌%◌, ◌^◌, List, [], ◌∷◌, ◌++◌, bit_xor, length, take, drop, nat_lt, if◌then◌else◌, Option, Some, None}
use Rattle.std.specs.Int.{w32, w64, to_le_bytes, to_be_bytes, from_be_bytes}
use Rattle.rand_core.specs.Steps.{word_bytes}
use Rattle.rand_chacha.specs.ChaCha.{ChaCha, next_word, word_at, key_of}

-- the bytes of the generator's next words, and the generator after them
abbrev pub next_words : ℕ → ChaCha → List ℕ × ChaCha
next_words = word_bytes (to_le_bytes w32) (next_word 10)

-- Byte k of the keystream of a nonce and a key of eight words: each word gives four bytes, the least significant first.
unfoldable pub key_byte : List ℕ → ℕ → ℕ → ℕ
key_byte key nonce k = word_at 10 key nonce (k / 4) / 256 ^ (k % 4) % 256

-- the bytes, each XORed with its byte of the keystream, beginning at byte k of the keystream
abbrev pub xored_from : List ℕ → ℕ → ℕ → List ℕ → List ℕ
xored_from key nonce k [] = []
xored_from key nonce k (x ∷ xs) = bit_xor x (key_byte key nonce k) ∷ xored_from key nonce (k + 1) xs

-- the nonce in eight bytes, and the plain bytes XORed with its keystream
abbrev pub chacha_sealing : List ℕ → ℕ → List ℕ → List ℕ
chacha_sealing seed nonce plain = to_be_bytes w64 nonce ++ xored_from (key_of seed) nonce 0 plain

-- the plain bytes of such a sealing, or none if the sealed bytes are too short for a nonce
abbrev pub chacha_opening : List ℕ → List ℕ → Option (List ℕ)
chacha_opening seed sealed =
    if nat_lt (length sealed) 8 then None else Some (xored_from (key_of seed) (from_be_bytes w64 (take 8 sealed)) 0 (drop 8 sealed))
