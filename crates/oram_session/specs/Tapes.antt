-- The words of a ticket.
use Rattle.std.specs.Prelude.{ℕ, ◌+◌, ◌*◌, ◌%◌, ◌^◌, List, map, slice_index}
use Rattle.std.specs.List.{range_with_len}
use Rattle.rand_chacha.specs.ChaCha.{word_at, key_of}

-- `count` words of a list from index `start` on; after the end of the list they are 0
abbrev pub words_from : List ℕ → ℕ → ℕ → List ℕ
words_from words start count = map (λ j. slice_index words (start + j)) (range_with_len 0 count)

-- the words of a ticket, if each ticket has `count` words in the list, one ticket after the other
abbrev pub list_words : List ℕ → ℕ → ℕ → List ℕ
list_words words ticket count = words_from words (ticket * count) count

-- A word of 64 bits, made of two words of the generator ChaCha20 under a key, in stream 0, the low half first. The
-- stream repeats after 2 ^ 68 words.
abbrev pub word_from : List ℕ → ℕ → ℕ
word_from key place =
    word_at 10 (key_of key) 0 (place % 2 ^ 68) + word_at 10 (key_of key) 0 ((place + 1) % 2 ^ 68) * 2 ^ 32

-- the words of a ticket, if each ticket has two words for each tree
abbrev pub chacha_words : List ℕ → ℕ → ℕ → ℕ → List ℕ
chacha_words key trees ticket count = map (λ j. word_from key (4 * trees * ticket + 2 * j)) (range_with_len 0 count)
