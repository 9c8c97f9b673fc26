-- The decimal digits of a byte.
use Rattle.std.proofs.Common.{◌≡◌, ◌∙◌, ℕ, ◌+◌, ◌/◌, ◌%◌, ◌<◌, ◌≤◌, List, [], ◌∷◌, ◌++◌, ap, arith}
use Rattle.std.specs.Prelude.{decimal}
use Rattle.std.proofs.lemmas.Fmt.{decimal_digit, decimal_step}

pub one_digit : (n : ℕ) → n < 10 → decimal n ≡ (48 + n % 10) ∷ []
one_digit n small =
    let same : n ≡ n % 10 = omega arith in
    decimal_digit n small ∙ ap (λ (d : ℕ). (48 + d) ∷ []) same

pub two_digits : (n : ℕ) → 10 ≤ n → n < 100 → decimal n ≡ (48 + n / 10 % 10) ∷ (48 + n % 10) ∷ []
two_digits n least small =
    decimal_step n least (omega arith) ∙ ap (λ (l : List ℕ). l ++ ((48 + n % 10) ∷ [])) (one_digit (n / 10) (omega arith))

pub three_digits : (n : ℕ) → 100 ≤ n → n < 256 → decimal n ≡ (48 + n / 100) ∷ (48 + n / 10 % 10) ∷ (48 + n % 10) ∷ []
three_digits n least small =
    let hundreds : n / 10 / 10 % 10 ≡ n / 100 = omega arith in
    decimal_step n (omega arith) (omega arith) ∙ ap (λ (l : List ℕ). l ++ ((48 + n % 10) ∷ [])) (two_digits (n / 10) (omega arith) (omega arith))
    ∙ ap (λ (d : ℕ). (48 + d) ∷ (48 + n / 10 % 10) ∷ (48 + n % 10) ∷ []) hundreds
