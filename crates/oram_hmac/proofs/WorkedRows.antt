-- Worked rows.
use Rattle.std.proofs.Common.{◌≡◌, refl, [], ◌∷◌, replicate}
use Rattle.oram_hmac.specs.Hmac.{key_block, masked_key}

-- a short key has zeros behind it
short_key : key_block (1 ∷ 2 ∷ []) ≡ 1 ∷ 2 ∷ replicate 62 0
short_key = refl

-- the key of RFC 2104's inner and outer text, for the key 01 02
inner_key : masked_key 0x36 (1 ∷ 2 ∷ []) ≡ 0x37 ∷ 0x34 ∷ replicate 62 0x36
inner_key = refl

outer_key : masked_key 0x5c (1 ∷ 2 ∷ []) ≡ 0x5d ∷ 0x5e ∷ replicate 62 0x5c
outer_key = refl
