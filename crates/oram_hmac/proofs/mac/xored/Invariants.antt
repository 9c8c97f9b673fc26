use Rattle.std.proofs.Common.{◌≡◌, ℕ, List, length, map, take, bit_xor}
use Rattle.oram_hmac.proofs.mac.xored.Given as goal

-- the first i bytes are masked
pub record IsMasked (masked block : List ℕ) (byte i : ℕ) : Type 0 where
  pub long : length masked ≡ 64
  pub front : take i masked ≡ map (λ b. bit_xor b byte) (take i block)

abbrev pub invariant-loop-i : goal.invariant-loop-i
invariant-loop-i l = IsMasked l.masked l.block l.byte l.i
