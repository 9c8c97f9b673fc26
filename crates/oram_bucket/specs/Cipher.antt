-- What a sealer does, as plain functions.
use Rattle.std.specs.Prelude.{◌≡◌, ℕ, ◌+◌, ◌^◌, ◌<◌, ◌≤◌, List, length, Option, Some}
use Rattle.oram_bucket.specs.Bytes.{IsBytes}

pub record Cipher : Type 0 where
  pub overhead : ℕ  -- how many bytes sealing adds
  pub sealing : ℕ → List ℕ → List ℕ  -- the sealed bytes of plain bytes, under a nonce
  pub opening : List ℕ → Option (List ℕ)  -- the plain bytes that sealed bytes open to, or none if they are broken

-- the laws of a cipher: sealing adds `overhead` bytes, at most 64, and opening undoes sealing
pub record IsCipher (c : Cipher) : Type 0 where
  pub small : c.overhead ≤ 64
  pub longer : (nonce : ℕ) (plain : List ℕ) → length (c.sealing nonce plain) ≡ c.overhead + length plain
  pub undoes : (nonce : ℕ) (plain : List ℕ) → nonce < 2 ^ 64 → IsBytes plain → c.opening (c.sealing nonce plain) ≡ Some plain

-- the cipher that changes nothing
abbrev pub plain_cipher : Cipher
plain_cipher = record { overhead = 0; sealing = λ nonce plain. plain; opening = λ bytes. Some bytes }
