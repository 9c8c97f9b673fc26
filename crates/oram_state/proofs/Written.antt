-- A file whose length was written last.
use Rattle.std.proofs.Common.{◌≡◌, ℕ, ◌+◌, List, ◌++◌, length, take, drop, refl, sym, ap, arith, length-append, append_assoc, ◌∙◌}
use Rattle.std.specs.Prelude.{codes}
use Rattle.oram_state.specs.StateBytes.{short, long, body}

-- the bytes before the length
abbrev pub unmeasured : List ℕ → List ℕ
unmeasured fields = codes "PATHORAM" ++ short 2 ++ long 0 ++ fields

len_short : (n : ℕ) → length (short n) ≡ 4
unfolding short
len_short n = refl

len_long : (n : ℕ) → length (long n) ≡ 8
unfolding long
len_long n = refl

pub length-unmeasured : (fields : List ℕ) → length (unmeasured fields) ≡ 20 + length fields
length-unmeasured fields =
    let a = length-append (codes "PATHORAM" ++ short 2 ++ long 0) fields in
    let b = length-append (codes "PATHORAM" ++ short 2) (long 0) in
    let c = length-append (codes "PATHORAM") (short 2) in
    omega (arith, a, b, c, len_short 2, len_long 0)

pub length-body : (version : ℕ) (fields : List ℕ) → length (body version fields) ≡ 20 + length fields
length-body version fields =
    let n = long (52 + length fields) in
    let a = length-append (codes "PATHORAM" ++ short version ++ n) fields in
    let b = length-append (codes "PATHORAM" ++ short version) n in
    let c = length-append (codes "PATHORAM") (short version) in
    omega (arith, a, b, c, len_short version, len_long (52 + length fields))

between : (fields middle : List ℕ) → take 12 (unmeasured fields) ++ (middle ++ drop 20 (unmeasured fields)) ≡ codes "PATHORAM" ++ short 2 ++ middle ++ fields
unfolding short long
between fields middle = sym (append_assoc (codes "PATHORAM" ++ short 2) middle fields)

pub measured : (fields : List ℕ) (n : ℕ) → n ≡ 52 + length fields → take 12 (unmeasured fields) ++ (long n ++ drop 20 (unmeasured fields)) ≡ body 2 fields
measured fields n e = between fields (long n) ∙ ap (λ (k : ℕ). codes "PATHORAM" ++ short 2 ++ long k ++ fields) e

-- the bytes appended piece by piece
pub pieced : (a b c d e head rest : List ℕ) → a ≡ codes "PATHORAM" → b ≡ a ++ short 2 → c ≡ b ++ long 0 → d ≡ c ++ head → e ≡ d ++ rest → e ≡ unmeasured (head ++ rest)
pieced a b c d e head rest p q r s t = t ∙ ap (λ (x : List ℕ). x ++ rest) (s ∙ ap (λ (x : List ℕ). x ++ head) (r ∙ ap (λ (x : List ℕ). x ++ long 0) (q ∙ ap (λ (x : List ℕ). x ++ short 2) p)))
    ∙ append_assoc (codes "PATHORAM" ++ short 2 ++ long 0) head rest
