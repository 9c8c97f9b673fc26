-- A list of blocks rises if each address is below the next.
use Rattle.std.proofs.Common.{◌≡◌, ℕ, zero, suc, ◌+◌, ◌-◌, ◌<◌, ◌↔◌, Bool, true, false, IsTrue, List, [], length, get_or, refl, sym, ◌∙◌, ltb, arith}
use mathlib.Core.Bool.{false≢true}
use Rattle.std.specs.List.{AllAdjacentBelow, IsAllAdjacentAnswer}
use Rattle.std.proofs.lemmas.Bool.{lt-ltb, ltb-true}
use Rattle.oram_bucket.specs.declared.block.Block.{Block}
use Rattle.oram_bucket.specs.Cell.{IsRising}

-- an address is less than the one m places after the next
below_after : (blocks : List Block) (i m : ℕ) (d : Block) → AllAdjacentBelow (λ b c. b.address < c.address) blocks (length blocks)
    → i + suc m < length blocks → (get_or blocks i d).address < (get_or blocks (i + suc m) d).address
below_after blocks i zero d next within = next i d within
below_after blocks i (suc m) d next within =
    let before = below_after blocks i m d next (omega arith) in
    let last : (get_or blocks (i + suc m) d).address < (get_or blocks (i + suc m + 1) d).address = next (i + suc m) d (omega arith) in
    let same : i + suc (suc m) ≡ i + suc m + 1 = omega arith in
    rw same (omega (arith, before, last))

rising_from_next : (blocks : List Block) → AllAdjacentBelow (λ b c. b.address < c.address) blocks (length blocks) → IsRising blocks
rising_from_next blocks next i j d lt within =
    let m : ℕ = j - suc i in
    let same : j ≡ i + suc m = omega arith in
    rw same (below_after blocks i m d next (omega arith))

-- the answer of the test of each address and the next
pub rising_if_adjacent : (blocks : List Block) (answer : Bool)
    → IsAllAdjacentAnswer (λ (b c : Block) (less : Bool). less ≡ ltb b.address c.address) blocks answer
    → IsTrue answer ↔ IsRising blocks
rising_if_adjacent blocks true next = (λ _. rising_from_next blocks (λ k d within. ltb-true _ _ (sym (next k d within))), λ _. refl)
rising_if_adjacent blocks false (k, within, not_less) = (
  λ no. absurd (false≢true no),
  λ rising.
      let d : Block = record { address = 0; leaf = 0; content = [] } in
      absurd (false≢true (not_less d ∙ lt-ltb _ _ (rising k (k + 1) d (omega arith) within))),
)
