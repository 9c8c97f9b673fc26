-- Numbers in eight bytes.
use Rattle.std.proofs.Common.{◌≡◌, ℕ, ◌^◌, ◌<◌, List, length, refl, sym, ◌∙◌, ap}
use Rattle.std.specs.Int.{w64, to_le_bytes, from_le_bytes}
use Rattle.std.proofs.lemmas.Nat.{from_le_bytes-to_le_bytes_8}
use Rattle.oram_pair.specs.Fronts.{eight_bytes}

pub eight_bytes_are : (n : ℕ) → to_le_bytes w64 n ≡ eight_bytes n
unfolding eight_bytes
eight_bytes_are n = refl

pub length-eight_bytes : (n : ℕ) → length (eight_bytes n) ≡ 8
unfolding eight_bytes
length-eight_bytes n = refl

pub eight_bytes_one : (a b : ℕ) → a < 2 ^ 64 → b < 2 ^ 64 → eight_bytes a ≡ eight_bytes b → a ≡ b
unfolding eight_bytes
eight_bytes_one a b ha hb e = sym (from_le_bytes-to_le_bytes_8 a ha) ∙ ap (λ (l : List ℕ). from_le_bytes w64 l) e ∙ from_le_bytes-to_le_bytes_8 b hb
