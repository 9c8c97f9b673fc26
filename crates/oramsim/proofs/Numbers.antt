-- Numbers as text.
use Rattle.std.specs.Prelude.{◌&&◌}
use Rattle.std.proofs.Common.{◌++◌, subst, ◌≡◌, ℕ, ◌^◌, ◌<◌, Bool, true, false, List, length, Option, Some, None, Result, Ok, Err, refl, sym, ap, ◌∙◌, arith, rules}
use Rattle.std.specs.Char.{is_ascii_digit}
use Rattle.std.specs.List.{list_all}
use Rattle.std.specs.Result.{result_ok, MatchResult, OkIff}
use Rattle.std.proofs.lemmas.Bool.{lt-ltb, le-ltb, ltb-true}
use Rattle.std.specs.Str.{IsUtf8}
use Rattle.std.specs.Str.Parse.{digits_value, ParsesUnsigned}
use Rattle.std.proofs.lemmas.Str.Parse.{IsNumeralModel, numerals_by_value, parse_digits}
use Rattle.std.proofs.lemmas.Str.{IsUtf8-from_ascii}
use Rattle.std.proofs.lemmas.Fmt.{IsAscii-from_digits}
use Rattle.oramsim.specs.Lines.{is_numeral, number_below}

pub own : IsNumeralModel (λ ds. list_all is_ascii_digit ds ≡ true) (digits_value 10)
own = numerals_by_value (λ ds. list_all is_ascii_digit ds ≡ true) (search rules)

pub both_true : (a b : Bool) → (a && b) ≡ true → (a ≡ true) × (b ≡ true)
both_true true true h = (refl, refl)
both_true true false h = cc
both_true false b h = cc

pub digits_of_numeral : (bs : List ℕ) → is_numeral bs ≡ true → list_all is_ascii_digit bs ≡ true
digits_of_numeral bs h = (both_true _ _ h).1

pub digits_some : (bs : List ℕ) → is_numeral bs ≡ true → 0 < length bs
digits_some bs h = ltb-true 0 (length bs) (both_true _ _ (both_true _ _ h).0).0

pub number_below_fits : (limit : ℕ) (bs : List ℕ) → is_numeral bs ≡ true → digits_value 10 bs < limit → number_below limit bs ≡ Some (digits_value 10 bs)
unfolding number_below
number_below_fits limit bs h lt = rw (h, lt-ltb (digits_value 10 bs) limit lt) refl

pub number_below_over : (limit : ℕ) (bs : List ℕ) → is_numeral bs ≡ true → (digits_value 10 bs < limit → ⊥) → number_below limit bs ≡ None
unfolding number_below
number_below_over limit bs h over = rw (h, le-ltb (digits_value 10 bs) limit (omega arith)) refl

pub numeral_parses : {E : Type 0} (bs : List ℕ) (r : Result ℕ E) → ParsesUnsigned 64 10 bs r → is_numeral bs ≡ true → result_ok r ≡ number_below (2 ^ 64) bs
numeral_parses bs r p h = parsed r (parse_digits own 64 bs r p (digits_of_numeral bs h)) where
  parsed : {E : Type 0} (r : Result ℕ E) → OkIff r ((0 < length bs) × (digits_value 10 bs < 2 ^ 64)) (digits_value 10 bs) → result_ok r ≡ number_below (2 ^ 64) bs
  parsed (Ok x) k = ap Some k.1 ∙ sym (number_below_fits (2 ^ 64) bs h k.0.1)
  parsed (Err e) k = sym (number_below_over (2 ^ 64) bs h (λ lt. k (digits_some bs h, lt)))

pub utf8_of_numeral : (bs : List ℕ) → is_numeral bs ≡ true → IsUtf8 bs
utf8_of_numeral bs h = IsUtf8-from_ascii bs (IsAscii-from_digits bs (own.to bs (digits_of_numeral bs h)))

pub none_refuses : {A E : Type 0} (r : Result A E) (P : A → Type 0) (U : Type 0) (V : E → Type 0) → MatchResult r P (λ e. (U → ⊥) × V e) → result_ok r ≡ None → U → ⊥
none_refuses (Ok x) P U V m h u = cc
none_refuses (Err e) P U V m h u = m.0 u

pub some_gives : {A E : Type 0} (r : Result A E) (P : A → Type 0) (Q : E → Type 0) (x : A) → MatchResult r P Q → result_ok r ≡ Some x → P x
some_gives (Ok y) P Q x m h = let e : y ≡ x = cc in subst P e m
some_gives (Err e) P Q x m h = cc

-- numbers that were read before those of the rest
abbrev pub with_front : List ℕ → Option (List ℕ) → Option (List ℕ)
with_front front None = None
with_front front (Some rest) = Some (front ++ rest)
