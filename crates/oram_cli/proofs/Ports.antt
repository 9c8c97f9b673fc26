-- A port's decimal text.
use Rattle.std.proofs.Common.{◌≡◌, sym, refl, ℕ, suc, zero, ◌≤◌, List, get_or, Result, Ok, Err, true, arith}
use Rattle.std.specs.Prelude.{is_ok, decimal}
use Rattle.std.specs.Str.{all_ascii_digits}
use Rattle.std.specs.Str.Parse.{ParsesUnsigned, digits_value}
use Rattle.std.specs.Result.{OkIff}
use Rattle.std.proofs.lemmas.Str.Parse.{IsNumeralModel, numerals_by_value, parse_plain, tells_all_ascii_digits, digit_at}
use Rattle.std.proofs.lemmas.Fmt.{decimal-digits_value, decimal_digit, decimal_is_IsNumeral, first_decimal, parse-decimal}
use Rattle.oram_cli.specs.Tables.{IsPort}

own : IsNumeralModel (λ ds. all_ascii_digits ds ≡ true) (digits_value 10)
own = numerals_by_value (λ ds. all_ascii_digits ds ≡ true) tells_all_ascii_digits

from_ok : {E : Type 0} (r : Result ℕ E) (P : Type 0) (v : ℕ) → OkIff r P v → is_ok r ≡ true → P
from_ok (Ok x) P v h ok = h.0
from_ok (Err e) P v h ok = cc

-- the number isn't 0, whose text is 48 alone
not_zero : (bs : List ℕ) (n : ℕ) → decimal n ≡ bs → 49 ≤ get_or bs 0 0 → 1 ≤ n
not_zero bs zero e first =
    let one : get_or bs 0 0 ≡ 48 = rw (← e, decimal_digit 0 (omega arith)) refl in
    absurd (omega arith)
not_zero bs (suc n) e first = omega arith

pub port_from : {E : Type 0} (bs : List ℕ) (r : Result ℕ E) → ParsesUnsigned 16 10 bs r → 49 ≤ get_or bs 0 0 → is_ok r ≡ true → IsPort bs
port_from bs r h first ok =
    let p = from_ok r _ _ (parse_plain own 16 bs r h (λ e. omega arith)) ok in
    let e : decimal (digits_value 10 bs) ≡ bs = decimal-digits_value own bs p.0 p.1 (λ z. absurd (omega arith)) (omega (arith, p.2)) in
    (digits_value 10 bs, not_zero bs _ e first, omega (arith, p.2), sym e)

pub port_begins : (bs : List ℕ) → IsPort bs → (49 ≤ get_or bs 0 0) × (get_or bs 0 0 ≤ 57)
port_begins bs p =
    let numeral = decimal_is_IsNumeral p.0 (omega (arith, p.2)) in
    let low = first_decimal p.0 (omega (arith, p.1)) (omega (arith, p.2)) in
    let high = digit_at (decimal p.0) 0 numeral.0.1 numeral.0.0 in
    rw (p.3) (omega (arith, low), high.1)

pub port_parses : {E : Type 0} (bs : List ℕ) (r : Result ℕ E) → ParsesUnsigned 16 10 bs r → IsPort bs → is_ok r ≡ true
port_parses bs r h p = rw (parse-decimal 16 p.0 bs r (omega (arith, p.2)) (omega (arith, p.2)) p.3 h) refl
