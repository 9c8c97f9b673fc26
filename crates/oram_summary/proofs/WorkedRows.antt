-- Worked rows, by computing: the text of a summary, and a text that is sealed.
use Rattle.std.proofs.Common.{◌≡◌, zero, suc, [], ◌∷◌, ◌++◌, length, take, drop, replicate, refl, arith, lit<, lit≤, All}
use Rattle.rand_core.specs.Steps.{u32_at}
use Rattle.rand_chacha.specs.Block.{quarter_round, column_round, diagonal_round, double_rounds, block_word}
use Rattle.sha2.specs.Sha256.{sha256, hash_after, compress, rounds, schedule, first_words, digest_bytes}
use Rattle.oram_hmac.specs.Hmac.{hmac, inner_text, outer_text}
use Rattle.oram_bucket.specs.Keystream.{key_byte}
use Rattle.oram_geometry.specs.Sizes.{IsDevice, blocks_in, level_for}
use Rattle.oram_geometry.specs.Least.{least_from}
use Rattle.oram_bucket.specs.Bucket.{IsBlockOf}
use Rattle.oram_summary.specs.Contents.{IsSummary}
use Rattle.oram_summary.specs.Laws.{short_text, small, small_summary, some_key, some_salt}
use Rattle.oram_summary.specs.Keys.{stream_key, stream_secret, tag_key}
use Rattle.oram_summary.specs.Sealing.{hidden, sealing, tag_of}
use Rattle.oram_summary.specs.Text.{block_bytes_in, text_of}

small_is_device : IsDevice small
small_is_device = record {
  some_blocks = omega arith;
  few_blocks = omega arith;
  some_bytes = omega arith;
  few_bytes = omega arith;
  whole_words = refl;
  some_slots = omega arith;
  few_slots = omega arith;
  some_top = omega arith;
  few_top = omega arith;
  some_lifetime = omega arith;
  few_lifetime = omega arith;
  some_load = omega arith;
  few_load = omega arith;
  room = refl;
}

small_block : All (IsBlockOf small 0) small_summary.stash
unfolding blocks_in level_for least_from
small_block zero d within = record { address_in = lit< tt; leaf_in = lit< tt; whole = refl }
small_block (suc k) d within = absurd (omega arith)

pub small_is_summary : IsSummary small_summary
unfolding blocks_in level_for least_from
small_is_summary = record {
  device = small_is_device;
  of_device = record { near = lit≤ tt; rising = λ i j d before within. absurd (omega arith); blocks = small_block };
  room = lit≤ tt;
  fit = record { time = lit< tt; number = lit< tt; ticket = lit< tt; nonce = lit< tt };
  root = refl;
}

-- 144 bytes, and room for 64 blocks with 24 bytes each
small_length : length (text_of small_summary) ≡ 1680
unfolding text_of
small_length = refl

-- the version, the sealing, and the sizes of the device
small_sizes : take 64 (text_of small_summary)
    ≡ (0 ∷ 0 ∷ 0 ∷ 0 ∷ 0 ∷ 0 ∷ 0 ∷ 1 ∷ []) ++ (0 ∷ 0 ∷ 0 ∷ 0 ∷ 0 ∷ 0 ∷ 0 ∷ 1 ∷ [])
    ++ (0 ∷ 0 ∷ 0 ∷ 0 ∷ 0 ∷ 0 ∷ 0 ∷ 8 ∷ []) ++ (0 ∷ 0 ∷ 0 ∷ 0 ∷ 0 ∷ 0 ∷ 0 ∷ 16 ∷ []) ++ (0 ∷ 0 ∷ 0 ∷ 0 ∷ 0 ∷ 0 ∷ 0 ∷ 4 ∷ [])
    ++ (0 ∷ 0 ∷ 0 ∷ 0 ∷ 0 ∷ 0 ∷ 0 ∷ 8 ∷ []) ++ (0 ∷ 0 ∷ 0 ∷ 0 ∷ 0 ∷ 0 ∷ 0 ∷ 100 ∷ []) ++ (0 ∷ 0 ∷ 0 ∷ 0 ∷ 0 ∷ 0 ∷ 0 ∷ 1 ∷ [])
unfolding text_of
small_sizes = refl

-- the near levels, the time, the number of the checkpoint, the next ticket, the next nonce, and how many blocks the stash has
small_numbers : take 48 (drop 64 (text_of small_summary))
    ≡ (0 ∷ 0 ∷ 0 ∷ 0 ∷ 0 ∷ 0 ∷ 0 ∷ 2 ∷ []) ++ (0 ∷ 0 ∷ 0 ∷ 0 ∷ 0x6b ∷ 0x49 ∷ 0xd2 ∷ 0 ∷ []) ++ (0 ∷ 0 ∷ 0 ∷ 0 ∷ 0 ∷ 0 ∷ 1 ∷ 2 ∷ [])
    ++ (0 ∷ 0 ∷ 0 ∷ 0 ∷ 0 ∷ 0 ∷ 0 ∷ 5 ∷ []) ++ (0 ∷ 0 ∷ 0 ∷ 0 ∷ 0 ∷ 0 ∷ 0 ∷ 35 ∷ []) ++ (0 ∷ 0 ∷ 0 ∷ 0 ∷ 0 ∷ 0 ∷ 0 ∷ 1 ∷ [])
unfolding text_of
small_numbers = refl

-- the root digest, the block of the stash, and zeros in the place of 63 blocks
small_stash : drop 112 (text_of small_summary) ≡ replicate 32 170 ++ (0 ∷ 0 ∷ 0 ∷ 5 ∷ 0 ∷ 0 ∷ 0 ∷ 3 ∷ []) ++ replicate 16 255 ++ replicate 1512 0
unfolding text_of
small_stash = refl

small_block_bytes : block_bytes_in (text_of small_summary) ≡ 16
unfolding text_of
small_block_bytes = refl

-- three bytes, sealed: the salt, the tag, and the bytes hidden by a stream whose key comes from the tag
short_is_sealed : sealing some_key some_salt short_text ≡ some_salt ++ (0x31 ∷ 0x30 ∷ 0x65 ∷ 0x0a ∷ 0x16 ∷ 0x77 ∷ 0x1b ∷ 0x14 ∷ 0x6b ∷ 0x53 ∷ 0x93 ∷ 0xb7 ∷ 0x77 ∷ 0x88 ∷ 0xf5 ∷ 0x57
    ∷ 0x6d ∷ 0x35 ∷ 0x5f ∷ 0x7b ∷ 0xf9 ∷ 0x9e ∷ 0x36 ∷ 0xc3 ∷ 0xd8 ∷ 0xf0 ∷ 0xc2 ∷ 0x91 ∷ 0x59 ∷ 0x5a ∷ 0xb0 ∷ 0x92 ∷ []) ++ (0xfd ∷ 0x95 ∷ 0x45 ∷ [])
unfolding sealing hidden tag_of tag_key stream_secret stream_key hmac inner_text outer_text sha256 hash_after compress rounds schedule first_words digest_bytes key_byte u32_at quarter_round column_round diagonal_round double_rounds block_word
short_is_sealed = refl
