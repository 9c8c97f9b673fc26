-- Numbers in decimal, followed by units.
use Rattle.std.proofs.Common.{◌≡◌, ◌∙◌, ap, subst, sym, refl, ℕ, suc, zero, ◌+◌, ◌≤◌, ◌<◌, [], ◌∷◌, ◌^◌, List, get_or, Result, Ok, Err, IfOk, true, arith}
use Rattle.std.specs.Prelude.{◌*◌, Option, Some, None, map, length, decimal, IfSome}
use Rattle.std.specs.Str.{all_ascii_digits}
use Rattle.std.specs.Str.Parse.{ParsesUnsigned, digits_value}
use Rattle.std.specs.Borrow.{Bor}
use Rattle.std.specs.Option.{SomeIff}
use Rattle.std.proofs.lemmas.List.{get_or-map, get_or_default, length-map}
use borrow.Author.Count.{below_more}
use Rattle.std.specs.Result.{OkIff, result_ok}
use Rattle.std.proofs.Math.Nat.{le-mul_of_pos_right}
use Rattle.std.proofs.lemmas.Str.Parse.{IsNumeralModel, numerals_by_value, parse_plain, tells_all_ascii_digits, digit_at}
use Rattle.oram_settings.specs.Sizes.{IsSize, IsSizeIn, units}
use Rattle.std.proofs.lemmas.Fmt.{decimal-digits_value, decimal_digit, decimal_is_IsNumeral, first_decimal}

own : IsNumeralModel (λ ds. all_ascii_digits ds ≡ true) (digits_value 10)
own = numerals_by_value (λ ds. all_ascii_digits ds ≡ true) tells_all_ascii_digits

-- the number isn't 0, whose text is 48 alone
not_zero : (bs : List ℕ) (n : ℕ) → bs ≡ decimal n → 49 ≤ get_or bs 0 0 → 0 < n
not_zero bs zero e first =
    let one : get_or bs 0 0 ≡ 48 = rw (e, decimal_digit 0 (omega arith)) refl in
    absurd (omega arith)
not_zero bs (suc n) e first = omega arith

parsed : {E : Type 0} (bs : List ℕ) (r : Result ℕ E) → OkIff r ((all_ascii_digits bs ≡ true) × (0 < length bs) × (digits_value 10 bs < 2 ^ 64)) (digits_value 10 bs)
    → 49 ≤ get_or bs 0 0 → IfOk r (λ n. (0 < n) × (bs ≡ decimal n))
parsed bs (Ok n) h first =
    let e : bs ≡ decimal n = sym (ap decimal h.1 ∙ decimal-digits_value own bs h.0.0 h.0.1 (λ z. absurd (omega arith)) h.0.2) in
    (not_zero bs n e first, e)
parsed bs (Err e) h first = tt

-- digits without a leading zero are the decimal text of the number that is read
pub number_from : {E : Type 0} (bs : List ℕ) (r : Result ℕ E) → ParsesUnsigned 64 10 bs r → 49 ≤ get_or bs 0 0 → IfOk r (λ n. (0 < n) × (bs ≡ decimal n))
number_from bs r h first = parsed bs r (parse_plain own 64 bs r h (λ e. omega arith)) first

pub number_begins : (bs : List ℕ) (n : ℕ) → 0 < n → n < 2 ^ 64 → bs ≡ decimal n → (49 ≤ get_or bs 0 0) × (get_or bs 0 0 ≤ 57)
number_begins bs n some fits e =
    let numeral = decimal_is_IsNumeral n fits in
    let low = first_decimal n some fits in
    let high = digit_at (decimal n) 0 numeral.0.1 numeral.0.0 in
    rw e (omega (arith, low), high.1)

pub if_some : {T E : Type 0} (r : Result T E) (P : T → Type 0) → IfOk r P → IfSome (result_ok r) P
if_some (Ok x) P h = h
if_some (Err e) P h = tt

-- if the bytes of n units fit in 64 bits, n does
pub fewer_fit : (n bytes size : ℕ) → 0 < bytes → size ≡ n * bytes → size < 2 ^ 64 → n < 2 ^ 64
fewer_fit n bytes size some e fits = let more = le-mul_of_pos_right n some in omega arith

-- if the test fails, nothing is returned
pub unfit : {T : Type 0} (r : Option T) (P : Type 0) (v : T) → SomeIff r P v → r ≡ None → P → ⊥
unfit (Some x) P v h none p = cc
unfit None P v h none p = h p

-- the units of a table, as texts and numbers
abbrev pub shown : List (Bor (List ℕ) × ℕ) → List (List ℕ × ℕ)
shown us = map (λ u. (u.0.now, u.1)) us

-- the text isn't a size in the first n units of a table
pub record IsNoneBelow (us : List (Bor (List ℕ) × ℕ)) (text : List ℕ) (n : ℕ) : Type 0 where
  pub none : (k : ℕ) (d : Bor (List ℕ) × ℕ) → k < n → (size : ℕ) → size < 2 ^ 64 → IsSizeIn ((get_or us k d).0.now, (get_or us k d).1) text size → ⊥

pub one_more : {us : List (Bor (List ℕ) × ℕ)} {text : List ℕ} {n : ℕ} (d : Bor (List ℕ) × ℕ) → n < length us → IsNoneBelow us text n
    → ((size : ℕ) → size < 2 ^ 64 → IsSizeIn ((get_or us n d).0.now, (get_or us n d).1) text size → ⊥) → IsNoneBelow us text (n + 1)
one_more {us} {text} {n} d within before here = record {
  none = λ k e. below_more (λ j. (size : ℕ) → size < 2 ^ 64 → IsSizeIn ((get_or us j e).0.now, (get_or us j e).1) text size → ⊥) n (λ j below. before.none j e below)
      (subst (λ (u : Bor (List ℕ) × ℕ). (size : ℕ) → size < 2 ^ 64 → IsSizeIn (u.0.now, u.1) text size → ⊥) (get_or_default us n d e within) here) k;
}

-- if it isn't one in any unit, it isn't a size
pub no_size : (us : List (Bor (List ℕ) × ℕ)) {text : List ℕ} {n : ℕ} → IsNoneBelow us text n → length us ≤ n → shown us ≡ units → (size : ℕ) → size < 2 ^ 64 → IsSize text size → ⊥
no_size [] all whole same size fits h = cc
no_size (u ∷ us) {text} {n} all whole same size fits h =
    let long : length (shown (u ∷ us)) ≡ length (u ∷ us) = simp length-map refl in
    let all_nine : length (shown (u ∷ us)) ≡ length units = ap length same in
    let listed = h.2 in
    let within : h.0 < length (u ∷ us) = omega arith in
    let unit = sym (get_or-map (λ (v : Bor (List ℕ) × ℕ). (v.0.now, v.1)) (u ∷ us) h.0 u h.1 within) ∙ (ap (λ (ws : List (List ℕ × ℕ)). get_or ws h.0 h.1) same ∙ h.3) in
    all.none h.0 u (omega arith) size fits (subst (λ (v : List ℕ × ℕ). IsSizeIn v text size) (sym unit) h.4)
