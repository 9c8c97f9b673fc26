-- The bytes of a file in memory after a write.
use Rattle.std.proofs.Common.{◌≡◌, ◌⊎◌, inl, inr, ℕ, zero, suc, ◌+◌, ◌-◌, ◌<◌, ◌≤◌, List, [], ◌∷◌, ◌++◌, length, get_or, take, drop, refl, sym, ◌∙◌, ap, arith, length-append}
use Rattle.std.specs.Prelude.{replicate}
use Rattle.std.proofs.lemmas.List.{length-take, length-replicate, get_or-replicate, get_or_append_left, get_or-append_right, get_or-drop, drop_all, append-nil}
use Rattle.std.proofs.lemmas.Bool.Decides.{nat_tests}
use Rattle.oram_redo.specs.Content.{Content, put, bytes_at}
use Rattle.oram_redo.specs.Memory.{byte_of}
use Rattle.oram_redo.proofs.Bytes.{put_outside, bytes_at-add}

pub put_inside : (bs : List ℕ) (at k : ℕ) (c : Content) → k < length bs → put bs at c (at + k) ≡ get_or bs k 0
put_inside [] at k c h = absurd (omega arith)
put_inside (b ∷ bs) at zero c h = here b bs at c
  where
    here : (b : ℕ) (bs : List ℕ) (at : ℕ) (c : Content) → put (b ∷ bs) at c (at + 0) ≡ b
    here b bs at c = grind (arith, nat_tests)
put_inside (b ∷ bs) at (suc k) c h =
    let moved : at + suc k ≡ suc at + k = omega arith in
    past b bs at k c ∙ ap (put bs (suc at) c) moved ∙ put_inside bs (suc at) k c (omega arith)
  where
    past : (b : ℕ) (bs : List ℕ) (at k : ℕ) (c : Content) → put (b ∷ bs) at c (at + suc k) ≡ put bs (suc at) c (at + suc k)
    past b bs at k c = grind (arith, nat_tests)

-- the bytes before the written ones: the old bytes, and zeros where there were none
abbrev pub front_of : ℕ → List ℕ → List ℕ
front_of at old = take at old ++ replicate (at - length old) 0

length-front_of : (at : ℕ) (old : List ℕ) → length (front_of at old) ≡ at
length-front_of at old = omega (arith, length-append (take at old) (replicate (at - length old) 0), length-take at old, length-replicate {A = ℕ} (at - length old) 0)

get_or-front_of : (at : ℕ) (old : List ℕ) (i : ℕ) → i < at → get_or (front_of at old) i 0 ≡ get_or old i 0
get_or-front_of zero old i h = absurd (omega arith)
get_or-front_of (suc at) [] i h = get_or-replicate (suc at - 0) i 0 0 (omega arith)
get_or-front_of (suc at) (x ∷ xs) zero h = refl
get_or-front_of (suc at) (x ∷ xs) (suc i) h =
    let less : suc at - suc (length xs) ≡ at - length xs = omega arith in
    ap (λ (n : ℕ). get_or (take at xs ++ replicate n 0) i 0) less ∙ get_or-front_of at xs i (omega arith)

pub overwritten_is : (old bytes : List ℕ) (at i : ℕ) → byte_of (front_of at old ++ bytes ++ drop (at + length bytes) old) i ≡ put bytes at (byte_of old) i
overwritten_is old bytes at i = elim (places i) [ inl low ↦ before low | inr other ↦ elim other [ inl inside ↦ within inside.0 inside.1 | inr high ↦ after high ] ]
  where
    rest : List ℕ
    rest = drop (at + length bytes) old

    long : length (front_of at old ++ bytes) ≡ at + length bytes
    long = omega (arith, length-append (front_of at old) bytes, length-front_of at old)

    places : (i : ℕ) → (i < at ⊎ ((at ≤ i × i < at + length bytes) ⊎ at + length bytes ≤ i))
    places i = grind arith

    before : i < at → byte_of (front_of at old ++ bytes ++ drop (at + length bytes) old) i ≡ put bytes at (byte_of old) i
    before low =
        get_or_append_left (front_of at old ++ bytes) (drop (at + length bytes) old) 0 i (omega (arith, long)) ∙ get_or_append_left (front_of at old) bytes 0 i (omega (arith, length-front_of at old))
        ∙ get_or-front_of at old i low ∙ sym (put_outside bytes at (byte_of old) i (inl low))

    within : at ≤ i → i < at + length bytes → byte_of (front_of at old ++ bytes ++ drop (at + length bytes) old) i ≡ put bytes at (byte_of old) i
    within low high =
        let moved : at + (i - at) ≡ i = omega arith in
        get_or_append_left (front_of at old ++ bytes) (drop (at + length bytes) old) 0 i (omega (arith, long)) ∙ get_or-append_right (front_of at old) bytes at i 0 (length-front_of at old) low
        ∙ sym (put_inside bytes at (i - at) (byte_of old) (omega arith)) ∙ ap (put bytes at (byte_of old)) moved

    after : at + length bytes ≤ i → byte_of (front_of at old ++ bytes ++ drop (at + length bytes) old) i ≡ put bytes at (byte_of old) i
    after high =
        let moved : at + length bytes + (i - (at + length bytes)) ≡ i = omega arith in
        get_or-append_right (front_of at old ++ bytes) (drop (at + length bytes) old) (at + length bytes) i 0 long high ∙ get_or-drop (at + length bytes) old (i - (at + length bytes)) 0
        ∙ ap (λ (k : ℕ). get_or old k 0) moved ∙ sym (put_outside bytes at (byte_of old) i (inr high))

-- the same if there was nothing after the written bytes
pub overwritten_end : (old bytes : List ℕ) (at i : ℕ) → length old ≤ at + length bytes → byte_of (front_of at old ++ bytes) i ≡ put bytes at (byte_of old) i
overwritten_end old bytes at i short =
    let none : drop (at + length bytes) old ≡ [] = drop_all (at + length bytes) old short in
    ap (λ (l : List ℕ). byte_of l i) (sym (append-nil (front_of at old ++ bytes)) ∙ ap (λ (l : List ℕ). front_of at old ++ bytes ++ l) (sym none)) ∙ overwritten_is old bytes at i

pub bytes_at-more : (i at : ℕ) (c : Content) → bytes_at (i + 1) at c ≡ bytes_at i at c ++ c (at + i) ∷ []
bytes_at-more i at c = bytes_at-add i 1 at c
