-- The first field of the rest of a line.
use Rattle.std.proofs.Common.{◌≡◌, ℕ, ◌+◌, ◌-◌, ◌≤◌, Bool, true, false, List, [], ◌∷◌, length, length-drop, take, take_all, drop, Some, None, refl, sym, ap, ◌∙◌, subst, arith}
use Rattle.std.specs.Prelude.{◌==◌, cond, position}
use Rattle.std.specs.List.{onto_first, position_or_len}
use Rattle.std.proofs.lemmas.Bool.{ltb-true, ltb-false}
use Rattle.std.proofs.lemmas.List.Splits.{slice_split_first}
use Rattle.oramsim.specs.Lines.{fields_of}

abbrev is_space : ℕ → Bool
is_space b = b == 32

found : (b : Bool) (n at : ℕ) → cond b (Some n) None ≡ Some at → (b ≡ true) × (n ≡ at)
found true n at e = (refl, cc)
found false n at e = cc

lost : (b : Bool) (n : ℕ) → cond b (Some n) None ≡ None → b ≡ false
lost true n e = cc
lost false n e = refl

whole_at : (b : Bool) (x : ℕ) (xs : List ℕ) → (x == 32) ≡ b → (length xs ≤ position_or_len is_space xs → fields_of xs ≡ xs ∷ []) → length (x ∷ xs) ≤ position_or_len is_space (x ∷ xs)
    → fields_of (x ∷ xs) ≡ (x ∷ xs) ∷ []
whole_at true x xs e more h = absurd (let k = rw e at h in omega (arith, k))
whole_at false x xs e more h = rw e (ap (onto_first x) (more (let k = rw e at h in omega (arith, k))))

whole : (bs : List ℕ) → length bs ≤ position_or_len is_space bs → fields_of bs ≡ bs ∷ []
whole [] h = refl
whole (x ∷ xs) h = whole_at (x == 32) x xs refl (whole xs) h

-- Without a space, the whole rest is one field.
pub one_field : (bs : List ℕ) → position is_space bs ≡ None → fields_of bs ≡ bs ∷ []
one_field bs e = whole bs (ltb-false _ _ (lost _ _ e))

-- With a space, the first field ends there.
pub first_field : (bs : List ℕ) (at : ℕ) → position is_space bs ≡ Some at → fields_of bs ≡ take at bs ∷ fields_of (take (length bs - (at + 1)) (drop (at + 1) bs))
first_field bs at e =
    let f = found _ _ at e in
    let split = slice_split_first is_space bs 0 (ltb-true _ _ f.0) in
    let rest : take (length bs - (at + 1)) (drop (at + 1) bs) ≡ drop (at + 1) bs = take_all (length bs - (at + 1)) (drop (at + 1) bs) (omega (arith, length-drop {A = ℕ})) in
    subst (λ n. fields_of bs ≡ take n bs ∷ fields_of (drop (n + 1) bs)) f.1 split ∙ ap (λ l. take at bs ∷ fields_of l) (sym rest)
