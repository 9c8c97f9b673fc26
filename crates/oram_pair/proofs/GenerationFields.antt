-- The fields of generations in the front of a file.
use Rattle.std.proofs.Common.{◌≡◌, ◌⊎◌, inl, inr, ℕ, ◌<◌, ◌≤◌, ◌^◌, List, [], ◌++◌, length, take, drop, true≢false, sym, ◌∙◌, ap, subst, arith, max, Option, Some, None}
use Rattle.std.specs.Prelude.{IfNone, IfSome}
use Rattle.std.proofs.Math.Nat.{le-max_left, le-max_right}
use Rattle.std.proofs.lemmas.Bool.{cases_lt}
use Rattle.std.proofs.lemmas.List.{append-nil, drop_all, drop_at, take_at}
use borrow.Rule.Slice.PartMut.{put_mid}
use Rattle.oram_pair.specs.Generations.{IsNewest, IsNewestOf, Says, SaysAt, field_bytes}
use Rattle.oram_pair.specs.Fronts.{eight_bytes}
use Rattle.oram_pair.specs.declared.fronts.Identity.{Identity}
use Rattle.oram_pair.specs.declared.generations.Newest.{Newest}
use Rattle.oram_pair.proofs.EightBytes.{eight_bytes_one, length-eight_bytes}

-- two parts that fill an array of zeros
pub two_parts : (n m : ℕ) (a b zeros : List ℕ) → length a ≡ n → length zeros ≡ m → put_mid n m (a ++ zeros) b ≡ a ++ b
two_parts n m a b zeros la lz =
    let front : take n (a ++ zeros) ≡ a = take_at a zeros n la in
    let behind : drop m (drop n (a ++ zeros)) ≡ [] = ap (λ (l : List ℕ). drop m l) (drop_at a zeros n la) ∙ drop_all m zeros (omega (arith, lz)) in
    ap (λ (l : List ℕ). l ++ (b ++ drop m (drop n (a ++ zeros)))) front ∙ ap (λ (l : List ℕ). a ++ (b ++ l)) behind ∙ ap (λ (l : List ℕ). a ++ l) (append-nil b)

pub joined : (a b c d : List ℕ) → a ≡ c → b ≡ d → a ++ b ≡ c ++ d
joined a b c d one two = ap (λ (l : List ℕ). l ++ b) one ∙ ap (λ (l : List ℕ). c ++ l) two

module _ (letters : List ℕ) (identity : Identity) where
  -- a field says one number
  pub number_is : (field : List ℕ) (n m : ℕ) → n < 2 ^ 64 → m < 2 ^ 64 → eight_bytes n ≡ take 8 field → field ≡ field_bytes letters identity m → n ≡ m
  number_is field n m hn hm read is =
      eight_bytes_one n m hn hm (read ∙ ap (λ (l : List ℕ). take 8 l) is ∙ take_at (eight_bytes m) _ 8 (length-eight_bytes m))

  one_number : (front : List ℕ) (at n m : ℕ) → SaysAt letters identity front at n → SaysAt letters identity front at m → n ≡ m
  one_number front at n m a b =
      let same : field_bytes letters identity n ≡ field_bytes letters identity m = sym a.is ∙ b.is in
      number_is (field_bytes letters identity n) n m a.fits b.fits (sym (take_at (eight_bytes n) _ 8 (length-eight_bytes n))) same

  abbrev IsSaid : List ℕ → ℕ → Option ℕ → Type 0
  IsSaid front at (Some n) = SaysAt letters identity front at n
  IsSaid front at None = (n : ℕ) → SaysAt letters identity front at n → ⊥

  pub is_said : (front : List ℕ) (at : ℕ) (found : Option ℕ) → IfSome found (λ n. (n < 2 ^ 64) × (take 16 (drop at front) ≡ field_bytes letters identity n))
      → IfNone found ((n : ℕ) → n < 2 ^ 64 → take 16 (drop at front) ≡ field_bytes letters identity n → ⊥) → IsSaid front at found
  is_said front at (Some n) some none = record { fits = some.0; is = some.1 }
  is_said front at None some none = λ n says. none n says.fits says.is

  pub newest_is : (front : List ℕ) (one two : Option ℕ) (newest : Newest) → IsSaid front 32 one → IsSaid front 48 two → IsNewestOf one two newest → IsNewest letters identity front newest
  newest_is front (Some a) (Some b) newest first second of = record {
    said = larger (cases_lt b a);
    greatest = λ n says. greatest n says;
    whole = (λ is. ((a, first), (b, second)), λ both. of.1);
  }
    where
      max_left : b < a → max a b ≡ a
      max_left lt = omega (arith, lt)

      max_right : a ≤ b → max a b ≡ b
      max_right le = omega (arith, le)

      larger : (b < a) ⊎ (a ≤ b) → Says letters identity front newest.number
      larger (inl lt) = inl (subst (λ (n : ℕ). SaysAt letters identity front 32 n) (sym (of.0 ∙ max_left lt)) first)
      larger (inr le) = inr (subst (λ (n : ℕ). SaysAt letters identity front 48 n) (sym (of.0 ∙ max_right le)) second)

      greatest : (n : ℕ) → Says letters identity front n → n ≤ newest.number
      greatest n (inl says) = omega (arith, one_number front 32 n a says first, le-max_left a b, of.0)
      greatest n (inr says) = omega (arith, one_number front 48 n b says second, le-max_right a b, of.0)
  newest_is front (Some a) None newest first second of = record {
    said = inl (subst (λ (n : ℕ). SaysAt letters identity front 32 n) (sym of.0) first);
    greatest = λ n says. greatest n says;
    whole = (λ is. absurd (true≢false (sym is ∙ of.1)), λ both. absurd (second both.1.0 both.1.1));
  }
    where
      greatest : (n : ℕ) → Says letters identity front n → n ≤ newest.number
      greatest n (inl says) = omega (arith, one_number front 32 n a says first, of.0)
      greatest n (inr says) = absurd (second n says)
  newest_is front None (Some b) newest first second of = record {
    said = inr (subst (λ (n : ℕ). SaysAt letters identity front 48 n) (sym of.0) second);
    greatest = λ n says. greatest n says;
    whole = (λ is. absurd (true≢false (sym is ∙ of.1)), λ both. absurd (first both.0.0 both.0.1));
  }
    where
      greatest : (n : ℕ) → Says letters identity front n → n ≤ newest.number
      greatest n (inl says) = absurd (first n says)
      greatest n (inr says) = omega (arith, one_number front 48 n b says second, of.0)
  newest_is front None None newest first second of = absurd of

  pub newest_if : (front : List ℕ) (one two : Option ℕ) (result : Option Newest) → IsSaid front 32 one → IsSaid front 48 two → IfSome result (IsNewestOf one two) → IfSome result (IsNewest letters identity front)
  newest_if front one two (Some newest) first second of = newest_is front one two newest first second of
  newest_if front one two None first second of = tt

  pub none_said : (front : List ℕ) (one two : Option ℕ) (result : Option Newest) → IsSaid front 32 one → IsSaid front 48 two → IfNone result ((one ≡ None) × (two ≡ None))
      → IfNone result ((length front < 64) ⊎ ((n : ℕ) → Says letters identity front n → ⊥))
  none_said front one two (Some newest) first second none = tt
  none_said front one two None first second none = inr (λ n says. neither n says)
    where
      neither : (n : ℕ) → Says letters identity front n → ⊥
      neither n (inl says) = subst (λ (o : Option ℕ). IsSaid front 32 o) none.0 first n says
      neither n (inr says) = subst (λ (o : Option ℕ). IsSaid front 48 o) none.1 second n says
