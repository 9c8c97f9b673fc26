-- Writes of any length, by calls of the system that may take less than they are given.
use Rattle.std.proofs.Common.{◌≡◌, inl, inr, ℕ, zero, suc, ◌+◌, ◌-◌, ◌≤◌, true, false, List, [], ◌∷◌, ◌++◌, length, take, drop, refl, sym, ◌∙◌, ap, subst, arith}
use Rattle.std.proofs.lemmas.List.{length-take, length-drop, take_all}
use Rattle.oram_redo.specs.FilePair.{Contents, Wrote}
use Rattle.oram_redo.specs.Fronts.{HasFailedLast}
use Rattle.oram_redo.specs.Note.{Call}
use Rattle.oram_redo.specs.Opened.{Opened}
use Rattle.oram_redo.specs.System.{Touched, seen_after}
use Rattle.oram_redo.specs.declared.file_pair.FileKind.{FileKind}
use Rattle.oram_redo.proofs.Touched.{touched_then, touched_write, touched_failed, wrote_call, wrote_then}

pub wrote_none : (file : FileKind) (at : ℕ) (seen : Contents) → Wrote file at [] seen seen
wrote_none file at seen = record { there = λ i. refl; other = λ i. refl }

-- the bytes that a call is given: those behind the first `put`
abbrev pub rest_of : ℕ → List ℕ → List ℕ
rest_of put bytes = take (length bytes - put) (drop put bytes)

pub length-rest_of : (put : ℕ) (bytes : List ℕ) → length (rest_of put bytes) ≡ length bytes - put
length-rest_of put bytes = omega (arith, length-take (length bytes - put) (drop put bytes), length-drop put bytes)

take_more : (put n : ℕ) (bytes : List ℕ) → put ≤ length bytes → n ≤ length bytes - put → take put bytes ++ take n (rest_of put bytes) ≡ take (put + n) bytes
take_more zero n bytes low less =
    let none : length bytes - 0 ≡ length bytes = omega arith in
    let same : 0 + n ≡ n = omega arith in
    ap (λ (k : ℕ). take n (take k bytes)) none ∙ ap (take n) (take_all (length bytes) bytes (omega arith)) ∙ ap (λ (k : ℕ). take k bytes) (sym same)
take_more (suc put) n [] low less = absurd (omega (arith, low))
take_more (suc put) n (b ∷ bytes) low less =
    let step : suc (length bytes) - suc put ≡ length bytes - put = omega arith in
    let moved : suc put + n ≡ suc (put + n) = omega arith in
    ap (λ (k : ℕ). b ∷ (take put bytes ++ take n (take k (drop put bytes)))) step ∙ ap (λ (l : List ℕ). b ∷ l) (take_more put n bytes (omega (arith, low)) (omega (arith, less))) ∙ ap (λ (k : ℕ). take k (b ∷ bytes)) (sym moved)

-- the system took n more bytes
pub wrote_more : (first : Opened) (old mid later : List Call) (file : FileKind) (at from put : ℕ) (bytes : List ℕ) → from ≡ at + put → put ≤ length bytes → (n : ℕ) → n ≤ length (rest_of put bytes)
    → later ≡ record { kind = 1; file = file; at = from; is_ok = true; bytes = take n (rest_of put bytes) } ∷ mid
    → Wrote file at (take put bytes) (seen_after first old) (seen_after first mid) → Wrote file at (take (put + n) bytes) (seen_after first old) (seen_after first later)
wrote_more first old mid later file at from put bytes here low n less is before =
    subst (λ (l : List ℕ). Wrote file at l (seen_after first old) (seen_after first later)) (take_more put n bytes low (omega (arith, less, length-rest_of put bytes)))
    (wrote_then file at (take put bytes) (take n (rest_of put bytes)) (seen_after first old) (seen_after first mid) (seen_after first later) before
    (subst (λ (k : ℕ). Wrote file k (take n (rest_of put bytes)) (seen_after first mid) (seen_after first later)) (omega (arith, here, low, length-take put bytes)) (wrote_call first mid later file from (take n (rest_of put bytes)) is)))

module _ (first : Opened) (old mid later : List Call) (file : FileKind) (at from put : ℕ) (bytes : List ℕ) (here : from ≡ at + put) (low : put ≤ length bytes)
    (touched : Touched first file at (length bytes) old mid) where
  -- the system took n more bytes
  module _ (n : ℕ) (less : n ≤ length (rest_of put bytes)) (is : later ≡ record { kind = 1; file = file; at = from; is_ok = true; bytes = take n (rest_of put bytes) } ∷ mid) where
    pub touched_more : Touched first file at (length bytes) old later
    touched_more =
        touched_then first file at (length bytes) old mid later touched
        (touched_write first mid file at (length bytes) from (take n (rest_of put bytes)) (omega (arith, here)) (omega (arith, here, low, less, length-rest_of put bytes, length-take n (rest_of put bytes))) later is)

  -- the system took none, and may have written any part of them
  pub touched_stopped : later ≡ record { kind = 1; file = file; at = from; is_ok = false; bytes = rest_of put bytes } ∷ mid → Touched first file at (length bytes) old later
  touched_stopped is =
      touched_then first file at (length bytes) old mid later touched
      (touched_failed first mid file at (length bytes) from (rest_of put bytes) (omega (arith, here)) (omega (arith, here, low, length-rest_of put bytes)) later is)

-- A write into a front counts as failed if the system says so, or if it wrote no byte.
pub failed_last : (writes later : List Call) (file : FileKind) (at : ℕ) (bytes : List ℕ) → later ≡ record { kind = 1; file = file; at = at; is_ok = false; bytes = bytes } ∷ writes → HasFailedLast later
failed_last writes later file at bytes is = subst HasFailedLast (sym is) (inl refl)

pub took_nothing : (writes later : List Call) (file : FileKind) (at n : ℕ) (bytes : List ℕ) → n ≡ 0 → later ≡ record { kind = 1; file = file; at = at; is_ok = true; bytes = take n bytes } ∷ writes → HasFailedLast later
took_nothing writes later file at n bytes none is = subst HasFailedLast (sym is) (inr (ap (λ (k : ℕ). take k bytes) none))
