-- The first line of the rest of a script.
use Rattle.std.proofs.Common.{◌≡◌, ◌≢◌, ℕ, zero, suc, ◌+◌, ◌-◌, ◌<◌, ◌⊎◌, inl, inr, Bool, true, false, List, [], ◌∷◌, ◌++◌, length, length-append, get_or, take, refl, sym, ap, ◌∙◌, arith}
use Rattle.std.specs.Prelude.{◌==◌, nat_lt, if◌then◌else◌}
use Rattle.std.specs.Io.BufRead.{take_through, drop_through, ends_with_byte, strip_last}
use Rattle.std.proofs.Math.Seq.{get_or-append_seam, take-append_seam}
use Rattle.std.proofs.lemmas.Bool.{eqb-true, eqb-false, lt-ltb, ltb-true, false_from_ne_true}
use Rattle.oramsim.specs.Lines.{lines_of, onto_line}
use Rattle.oramsim.proofs.Numbers.{both_true}

-- the bytes before the first 10
abbrev first_of : List ℕ → List ℕ
first_of [] = []
first_of (x ∷ xs) = if x == 10 then [] else x ∷ first_of xs

first_line : (b : Bool) (x : ℕ) (xs : List ℕ) → (x == 10) ≡ b → lines_of (x ∷ xs) ≡ first_of (x ∷ xs) ∷ lines_of (drop_through 10 (x ∷ xs))
first_line true x xs e = rw e refl
first_line false x [] e = rw e refl
first_line false x (y ∷ ys) e = rw e (ap (onto_line x) (first_line (y == 10) y ys refl))

abbrev NoTen : List ℕ → Type 0
NoTen [] = Unit {0}
NoTen (b ∷ bs) = (b ≢ 10) × NoTen bs

first_no_ten : (xs : List ℕ) → NoTen (first_of xs)
first_no_ten [] = tt
first_no_ten (x ∷ xs) = at (x == 10) refl (first_no_ten xs) where
  at : (b : Bool) → (x == 10) ≡ b → NoTen (first_of xs) → NoTen (first_of (x ∷ xs))
  at true e n = rw e tt
  at false e n = rw e (eqb-false x 10 e, n)

through : (xs : List ℕ) → (take_through 10 xs ≡ first_of xs ++ 10 ∷ []) ⊎ (take_through 10 xs ≡ first_of xs)
through [] = inr refl
through (x ∷ xs) = at (x == 10) refl (through xs) where
  at : (b : Bool) → (x == 10) ≡ b → (take_through 10 xs ≡ first_of xs ++ 10 ∷ []) ⊎ (take_through 10 xs ≡ first_of xs)
      → (take_through 10 (x ∷ xs) ≡ first_of (x ∷ xs) ++ 10 ∷ []) ⊎ (take_through 10 (x ∷ xs) ≡ first_of (x ∷ xs))
  at true e h = inl (rw e (ap (λ y. y ∷ []) (eqb-true x 10 e)))
  at false e (inl h) = inl (rw e (ap (λ l. x ∷ l) h))
  at false e (inr h) = inr (rw e (ap (λ l. x ∷ l) h))

each_not : (l : List ℕ) (i : ℕ) → NoTen l → i < length l → get_or l i 0 ≢ 10
each_not [] i n lt = absurd (omega arith)
each_not (b ∷ bs) zero n lt = n.0
each_not (b ∷ bs) (suc i) n lt = each_not bs i n.1 (omega arith)

stripped_none : (l : List ℕ) → NoTen l → strip_last 10 l ≡ l
stripped_none l n =
    let no_end : ends_with_byte 10 l ≡ false = false_from_ne_true (ends_with_byte 10 l) (λ h.
    let both = both_true (nat_lt 0 (length l)) (get_or l (length l - 1) 0 == 10) h in
    let some : 0 < length l = ltb-true 0 (length l) both.0 in
    each_not l (length l - 1) n (omega arith) (eqb-true _ 10 both.1)) in
    rw no_end refl

stripped_end : (l : List ℕ) → strip_last 10 (l ++ 10 ∷ []) ≡ l
stripped_end l =
    let long : length (l ++ 10 ∷ []) ≡ length l + 1 = length-append l (10 ∷ []) in
    let at : length (l ++ 10 ∷ []) - 1 ≡ length l = omega arith in
    let last : (get_or (l ++ 10 ∷ []) (length (l ++ 10 ∷ []) - 1) 0 == 10) ≡ true = ap (λ n. get_or (l ++ 10 ∷ []) n 0 == 10) at ∙ ap (λ n. n == 10) (get_or-append_seam l 10 [] 0) in
    let some : nat_lt 0 (length (l ++ 10 ∷ [])) ≡ true = lt-ltb 0 (length (l ++ 10 ∷ [])) (omega arith) in
    let ends : ends_with_byte 10 (l ++ 10 ∷ []) ≡ true = rw (some, last) refl in
    rw ends (ap (λ n. take n (l ++ 10 ∷ [])) at ∙ take-append_seam l (10 ∷ []))

stripped : (xs : List ℕ) → strip_last 10 (take_through 10 xs) ≡ first_of xs
stripped xs = elim (through xs) [
  | inl h ↦ ap (strip_last 10) h ∙ stripped_end (first_of xs)
  | inr h ↦ ap (strip_last 10) h ∙ stripped_none (first_of xs) (first_no_ten xs)
]

-- What is read of a rest that isn't empty is its first line.
pub lines_first : (rest line : List ℕ) → line ≡ take_through 10 rest → 0 < length line → lines_of rest ≡ strip_last 10 line ∷ lines_of (drop_through 10 rest)
lines_first [] line e some = absurd (omega (arith, ap length e))
lines_first (x ∷ xs) line e some = first_line (x == 10) x xs refl ∙ ap (λ l. l ∷ lines_of (drop_through 10 (x ∷ xs))) (sym (ap (strip_last 10) e ∙ stripped (x ∷ xs)))
