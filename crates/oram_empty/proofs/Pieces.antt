-- Parts of lists of bytes, and what a write to one leaves.
use Rattle.std.proofs.Common.{◌≡◌, ◌≢◌, ℕ, ◌+◌, ◌-◌, ◌*◌, ◌<◌, ◌≤◌, List, [], ◌++◌, length, take, drop, inl, inr, refl, ap, sym, ◌∙◌, append_assoc, arith}
use borrow.Rule.Slice.PartMut.{put_mid}
use Rattle.oram_empty.specs.KeptDigests.{piece}
use Rattle.oram_empty.specs.Collecting.{with_piece}
use Rattle.std.proofs.lemmas.Bool.{cases_lt}
use Rattle.std.proofs.lemmas.Slice.{between-put_mid, take-put_mid_below, drop-put_mid}
use Rattle.std.proofs.Math.Nat.{mul-le-mul_right}
use Rattle.std.proofs.lemmas.List.{append-nil, length-append, length-take-le, length-drop, take_at, drop_at, drop_all, drop-drop, drop-take}

-- a write to the last part of a list
pub put_last : (a k : ℕ) (x zs y : List ℕ) → length x ≡ a → length zs ≤ k → put_mid a k (x ++ zs) y ≡ x ++ y
put_last a k x zs y at few =
    ap (λ (front : List ℕ). front ++ (y ++ drop k (drop a (x ++ zs)))) (take_at x zs a at)
    ∙ ap (λ (back : List ℕ). x ++ (y ++ back)) (ap (drop k) (drop_at x zs a at) ∙ drop_all k zs few)
    ∙ ap (λ (back : List ℕ). x ++ back) (append-nil y)

-- a write to all bytes of a vector from `start` on
pub tail_written : (items now new : List ℕ) (start len : ℕ) → now ≡ items → len ≡ length items → start ≤ length items → length new ≡ length items - start
    → take len (put_mid start (length now - start) now new ++ drop (length (put_mid start (length now - start) now new)) items) ≡ take start items ++ new
tail_written items now new start len same whole within long =
    let P : List ℕ → List ℕ = λ n. put_mid start (length n - start) n new in
    let none : drop (length items - start) (drop start items) ≡ [] = drop_all (length items - start) (drop start items) (omega (arith, length-drop start items)) in
    let written : P items ≡ take start items ++ new = ap (λ (xs : List ℕ). take start items ++ (new ++ xs)) none ∙ ap (λ (xs : List ℕ). take start items ++ xs) (append-nil new) in
    let full : length (take start items ++ new) ≡ length items = omega (arith, length-append (take start items) new, length-take-le start items within) in
    ap (λ (n : List ℕ). take len (P n ++ drop (length (P n)) items)) same
    ∙ ap (λ (xs : List ℕ). take len (xs ++ drop (length xs) items)) written
    ∙ take_at (take start items ++ new) (drop (length (take start items ++ new)) items) len (full ∙ sym whole)

-- the piece that a slice has
pub piece-slice : (size k a b : ℕ) (bytes : List ℕ) → a ≡ k * size → b ≡ size → take (a + b - a) (drop a bytes) ≡ piece size bytes k
unfolding piece
piece-slice size k a b bytes at len =
    let width : a + b - a ≡ size = omega arith in
    rw (width, at) refl

-- with another piece

with_piece-put_mid : (size k : ℕ) (bytes new : List ℕ) → with_piece size bytes k new ≡ put_mid (k * size) size bytes new
with_piece-put_mid size k bytes new =
    append_assoc (take (k * size) bytes) new (drop (k * size + size) bytes)
    ∙ ap (λ (xs : List ℕ). take (k * size) bytes ++ (new ++ xs)) (sym (drop-drop size (k * size) bytes))

rows_end : (size i k : ℕ) → i < k → i * size + size ≤ k * size
rows_end size i k h = omega (arith, mul-le-mul_right size (let e : i + 1 ≤ k = omega arith in e), (let e : (i + 1) * size ≡ i * size + size = omega arith in e))

pub piece-with_same : (size k : ℕ) (bytes new : List ℕ) → k * size + size ≤ length bytes → length new ≡ size → piece size (with_piece size bytes k new) k ≡ new
unfolding piece
piece-with_same size k bytes new fits same =
    let width : k * size + size - k * size ≡ size = omega arith in
    ap (λ (xs : List ℕ). take size (drop (k * size) xs)) (with_piece-put_mid size k bytes new)
    ∙ ap (λ (n : ℕ). take n (drop (k * size) (put_mid (k * size) size bytes new))) (sym width)
    ∙ between-put_mid (k * size) size bytes new (k * size + size) (omega arith) (omega arith)

pub piece-with_other : (size k i : ℕ) (bytes new : List ℕ) → i ≢ k → k * size + size ≤ length bytes → length new ≡ size → piece size (with_piece size bytes k new) i ≡ piece size bytes i
unfolding piece
piece-with_other size k i bytes new apart fits same =
    ap (λ (xs : List ℕ). take size (drop (i * size) xs)) (with_piece-put_mid size k bytes new)
    ∙ elim (cases_lt i k) [
      | inl before ↦
          sym (drop-take (i * size) size (put_mid (k * size) size bytes new))
          ∙ ap (drop (i * size)) (take-put_mid_below (k * size) size bytes new (i * size + size) (rows_end size i k before) (omega arith))
          ∙ drop-take (i * size) size bytes
      | inr not_before ↦
          ap (take size) (drop-put_mid (k * size) size bytes new (i * size) (rows_end size k i (omega arith)) (omega arith) same)
    ]

pub length-with_piece : (size k : ℕ) (bytes new : List ℕ) → k * size + size ≤ length bytes → length new ≡ size → length (with_piece size bytes k new) ≡ length bytes
length-with_piece size k bytes new fits same =
    omega (arith, length-append (take (k * size) bytes ++ new) (drop (k * size + size) bytes), length-append (take (k * size) bytes) new, length-take-le (k * size) bytes (omega arith), length-drop (k * size + size) bytes)
