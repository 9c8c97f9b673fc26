use Rattle.std.proofs.Common.{◌≡◌, ◌+◌, ◌<◌, ◌==◌, ◌&&◌, ℕ, zero, suc, List, take, length, get_or, bit_or, ap, sym, ◌∙◌, arith, Bool}
use Rattle.std.proofs.lemmas.Bool.Decides.{nat_tests}
use Rattle.std.proofs.lemmas.List.{take_all}
use Rattle.std.proofs.lemmas.List.Folds.{list_all_more}
use Rattle.std.proofs.lemmas.Nat.{le_or_l}
use Rattle.std.specs.Int.Bits.{or_zero_l}
use Rattle.std.specs.List.{list_all}
use Rattle.oram_bucket.proofs.codec.is_zero.Goals as goal

-- a bitwise or is 0 only if both numbers are
or_is_zero : (a b : ℕ) → (bit_or a b == 0) ≡ (a == 0 && b == 0)
or_is_zero zero b = ap (λ (n : ℕ). n == 0) (or_zero_l b)
or_is_zero (suc a) b = let above = le_or_l (suc a) b in grind (arith, nat_tests)

-- one more byte
zero_more : (bytes : List ℕ) (i mixed : ℕ) → i < length bytes → (mixed == 0) ≡ list_all (λ b. b == 0) (take i bytes)
    → (bit_or mixed (get_or bytes i 0) == 0) ≡ list_all (λ b. b == 0) (take (i + 1) bytes)
zero_more bytes i mixed h so_far =
    or_is_zero mixed (get_or bytes i 0) ∙ ap (λ (b : Bool). b && get_or bytes i 0 == 0) so_far ∙ sym (list_all_more (λ b. b == 0) bytes i 0 h)

pub loop-byte-preserved : goal.loop-byte-preserved
loop-byte-preserved c = zero_more c.args.bytes.now c.loop-byte.byte-index c.loop-byte.mixed c.loop-byte-test.true c.loop-byte.invariant

pub returns : goal.returns
returns c = c.loop-byte.invariant ∙ ap (list_all (λ b. b == 0)) (take_all c.loop-byte.byte-index c.args.bytes.now c.loop-byte-test.false)
