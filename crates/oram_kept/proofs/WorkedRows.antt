-- The worked rows, computed.
use Rattle.std.proofs.Common.{◌≡◌, ℕ, zero, suc, ◌<◌, List, [], ◌∷◌, get_or, refl, sym, arith}
use Rattle.std.specs.List.{Contains}
use Rattle.oram_kept.specs.Examples.{Rows}
use Rattle.oram_kept.specs.Pages.{IsByteOf}
use Rattle.oram_kept.specs.Text.{number_bytes}

-- the only index that is told
only_one : (i k : ℕ) → k < 1 → get_or (1 ∷ []) k i ≡ i → i ≡ 1
only_one i zero below is = sym is
only_one i (suc k) below is = absurd (omega (arith, below))

abbrev before : List ℕ
before = 5 ∷ 6 ∷ 7 ∷ 8 ∷ []

abbrev after : List ℕ
after = 5 ∷ 6 ∷ 9 ∷ 8 ∷ []

second : (x : ℕ) → ((i : ℕ) → Contains (1 ∷ []) i → IsByteOf 2 i x → ⊥) → get_or after x 0 ≡ get_or before x 0
second zero none = refl
second (suc zero) none = refl
second (suc (suc zero)) none = absurd (none 1 (0, omega arith, refl) (record { from = omega arith; to = omega arith }))
second (suc (suc (suc zero))) none = refl
second (suc (suc (suc (suc x)))) none = refl

pub worked_rows : Rows
unfolding number_bytes
worked_rows = record {
  text = refl;
  none = refl;
  one = refl;
  full = refl;
  two = refl;
  second = refl;
  first = refl;
  third_page = refl;
  records = refl;
  before = refl;
  after = refl;
  no_records = refl;
  first_byte = record { from = omega arith; to = omega arith };
  last_byte = record { from = omega arith; to = omega arith };
  next_byte = λ is. omega (arith, is.to);
  before_first = λ is. omega (arith, is.from);
  on_first = record { from = omega arith; to = omega arith };
  on_last = record { from = omega arith; to = omega arith };
  behind_last = λ is. omega (arith, is.to);
  second_differs = record { long = refl; others = second };
  first_differs = λ differ. absurd (omega (arith, differ.others 0 (λ i is byte. omega (arith, byte.from, only_one i is.0 is.1 is.2))));
}
