-- Numbers of four bytes, the most significant byte first.
use Rattle.std.proofs.Common.{◌≡◌, ℕ, zero, suc, ◌-◌, ◌<◌, ◌≤◌, List, [], ◌∷◌, ◌++◌, length, get_or, take, drop, slice_range, refl, sym, ap, ◌∙◌, arith}
use Rattle.std.specs.Int.{w32, to_be_bytes}
use Rattle.std.proofs.lemmas.Nat.{be_bytes_4}
use Rattle.std.proofs.lemmas.List.{take_all, take-append-drop}
use Rattle.byteorder.specs.Endian.{big_number}

-- each number is a byte
abbrev pub IsBytes : List ℕ → Type 0
IsBytes xs = (i : ℕ) → get_or xs i 0 < 256

four_fit : (a b c d : ℕ) → a < 256 → b < 256 → c < 256 → d < 256 → IsBytes (a ∷ b ∷ c ∷ d ∷ [])
four_fit a b c d ha hb hc hd zero = ha
four_fit a b c d ha hb hc hd (suc zero) = hb
four_fit a b c d ha hb hc hd (suc (suc zero)) = hc
four_fit a b c d ha hb hc hd (suc (suc (suc zero))) = hd
four_fit a b c d ha hb hc hd (suc (suc (suc (suc i)))) = omega arith

-- the first four bytes spell the number that they are read as
pub be_bytes-big_number : (xs : List ℕ) → 4 ≤ length xs → IsBytes xs → to_be_bytes w32 (big_number 4 xs) ≡ take 4 xs
be_bytes-big_number [] long fits = absurd (omega arith)
be_bytes-big_number (a ∷ []) long fits = absurd (omega arith)
be_bytes-big_number (a ∷ b ∷ []) long fits = absurd (omega arith)
be_bytes-big_number (a ∷ b ∷ c ∷ []) long fits = absurd (omega arith)
be_bytes-big_number (a ∷ b ∷ c ∷ d ∷ xs) long fits =
    be_bytes_4 (a ∷ b ∷ c ∷ d ∷ []) (big_number 4 (a ∷ b ∷ c ∷ d ∷ xs)) refl (four_fit a b c d (fits 0) (fits 1) (fits 2) (fits 3)) (omega arith)

-- bytes are their first four, as a number, followed by the rest
pub number_and_rest : (xs : List ℕ) (n : ℕ) → 4 ≤ length xs → IsBytes xs → n ≡ big_number 4 xs → to_be_bytes w32 n ++ drop 4 xs ≡ xs
number_and_rest xs n long fits is =
    ap (λ (m : ℕ). to_be_bytes w32 m ++ drop 4 xs) is ∙ ap (λ (front : List ℕ). front ++ drop 4 xs) (be_bytes-big_number xs long fits) ∙ take-append-drop 4 xs

-- a byte, a number, and the rest
pub place_and_rest : (xs : List ℕ) (n : ℕ) → 5 ≤ length xs → IsBytes xs → n ≡ big_number 4 (slice_range xs 1 5) → xs ≡ (get_or xs 0 0 ∷ []) ++ to_be_bytes w32 n ++ slice_range xs 5 (length xs)
place_and_rest [] n long fits is = absurd (omega arith)
place_and_rest (a ∷ []) n long fits is = absurd (omega arith)
place_and_rest (a ∷ b ∷ []) n long fits is = absurd (omega arith)
place_and_rest (a ∷ b ∷ c ∷ []) n long fits is = absurd (omega arith)
place_and_rest (a ∷ b ∷ c ∷ d ∷ []) n long fits is = absurd (omega arith)
place_and_rest (a ∷ b ∷ c ∷ d ∷ e ∷ xs) n long fits is =
    let number : to_be_bytes w32 n ≡ b ∷ c ∷ d ∷ e ∷ [] = ap (to_be_bytes w32) is ∙ be_bytes-big_number (b ∷ c ∷ d ∷ e ∷ []) (omega arith) (four_fit b c d e (fits 1) (fits 2) (fits 3) (fits 4)) in
    let rest : take (length (a ∷ b ∷ c ∷ d ∷ e ∷ xs) - 5) xs ≡ xs = take_all (length (a ∷ b ∷ c ∷ d ∷ e ∷ xs) - 5) xs (omega arith) in
    sym (ap (λ (front : List ℕ). (a ∷ []) ++ front ++ take (length (a ∷ b ∷ c ∷ d ∷ e ∷ xs) - 5) xs) number ∙ ap (λ (back : List ℕ). (a ∷ b ∷ c ∷ d ∷ e ∷ []) ++ back) rest)

-- two bytes and a number
pub two_and_number : (xs : List ℕ) (n : ℕ) → length xs ≡ 6 → IsBytes xs → n ≡ big_number 4 (slice_range xs 2 (length xs)) → xs ≡ (get_or xs 0 0 ∷ get_or xs 1 0 ∷ []) ++ to_be_bytes w32 n
two_and_number [] n long fits is = absurd (omega arith)
two_and_number (a ∷ []) n long fits is = absurd (omega arith)
two_and_number (a ∷ b ∷ xs) n long fits is =
    let four : length xs ≡ 4 = omega arith in
    let rest : take (length (a ∷ b ∷ xs) - 2) xs ≡ xs = take_all (length (a ∷ b ∷ xs) - 2) xs (omega arith) in
    let number : to_be_bytes w32 n ≡ take 4 xs = ap (to_be_bytes w32) (is ∙ ap (big_number 4) rest) ∙ be_bytes-big_number xs (omega arith) (λ i. fits (suc (suc i))) in
    sym (ap (λ (back : List ℕ). a ∷ b ∷ back) (number ∙ take_all 4 xs (omega arith)))

-- a first byte, then two bytes and a number
pub op_and_number : (op : ℕ) (body : List ℕ) (n : ℕ) → 1 ≤ length body → get_or body 0 0 ≡ op → length (slice_range body 1 (length body)) ≡ 6 → IsBytes body
    → n ≡ big_number 4 (slice_range (slice_range body 1 (length body)) 2 (length (slice_range body 1 (length body))))
    → body ≡ op ∷ (get_or (slice_range body 1 (length body)) 0 0 ∷ get_or (slice_range body 1 (length body)) 1 0 ∷ []) ++ to_be_bytes w32 n
op_and_number op [] n long first six fits is = absurd (omega arith)
op_and_number op (a ∷ xs) n long first six fits is =
    let whole : slice_range (a ∷ xs) 1 (length (a ∷ xs)) ≡ xs = take_all (length (a ∷ xs) - 1) xs (omega arith) in
    let count : length xs ≡ 6 = ap length (sym whole) ∙ six in
    let number : n ≡ big_number 4 (slice_range xs 2 (length xs)) = is ∙ ap (λ (ys : List ℕ). big_number 4 (slice_range ys 2 (length ys))) whole in
    let parts : xs ≡ (get_or xs 0 0 ∷ get_or xs 1 0 ∷ []) ++ to_be_bytes w32 n = two_and_number xs n count (λ i. fits (suc i)) number in
    ap (λ (x : ℕ). x ∷ xs) first ∙ ap (λ (ys : List ℕ). op ∷ ys) (parts ∙ ap (λ (ys : List ℕ). (get_or ys 0 0 ∷ get_or ys 1 0 ∷ []) ++ to_be_bytes w32 n) (sym whole))

pub IsBytes-append : (xs ys : List ℕ) → IsBytes xs → IsBytes ys → IsBytes (xs ++ ys)
IsBytes-append [] ys h k i = k i
IsBytes-append (x ∷ xs) ys h k zero = h 0
IsBytes-append (x ∷ xs) ys h k (suc i) = IsBytes-append xs ys (λ j. h (suc j)) k i
