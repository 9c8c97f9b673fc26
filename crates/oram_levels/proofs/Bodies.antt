-- The bytes of a body, as those of a request.
use Rattle.std.proofs.Common.{◌≡◌, ℕ, suc, ◌-◌, ◌≤◌, arith, List, [], ◌∷◌, ◌++◌, length, drop, get_or, slice_range, refl, sym, ap, ◌∙◌, subst, length-drop, take_all}
use Rattle.std.specs.Int.{w32, to_be_bytes}
use Rattle.byteorder.specs.Endian.{big_number}
use Rattle.oram_wire.proofs.Numbers.{IsBytes, number_and_rest}
use Rattle.oram_levels.specs.Messages.{fetch_levels_body, store_levels_body}

four_is_all : (xs : List ℕ) → length xs ≡ 4 → drop 4 xs ≡ []
four_is_all [] four = absurd (omega (arith, four))
four_is_all (a ∷ []) four = absurd (omega (arith, four))
four_is_all (a ∷ b ∷ []) four = absurd (omega (arith, four))
four_is_all (a ∷ b ∷ c ∷ []) four = absurd (omega (arith, four))
four_is_all (a ∷ b ∷ c ∷ d ∷ []) four = refl
four_is_all (a ∷ b ∷ c ∷ d ∷ e ∷ xs) four = absurd (omega (arith, four))

-- four bytes and then a number of four
pub fetch_is : (body : List ℕ) (leaf : ℕ) → 4 ≤ length body → get_or body 0 0 ≡ 6 → length (slice_range body 4 (length body)) ≡ 4 → IsBytes body
    → leaf ≡ big_number 4 (slice_range body 4 (length body)) → body ≡ fetch_levels_body (get_or body 1 0) (get_or body 2 0) (get_or body 3 0) leaf
fetch_is [] leaf long op four fits is = absurd (omega arith)
fetch_is (a ∷ []) leaf long op four fits is = absurd (omega arith)
fetch_is (a ∷ b ∷ []) leaf long op four fits is = absurd (omega arith)
fetch_is (a ∷ b ∷ c ∷ []) leaf long op four fits is = absurd (omega arith)
fetch_is (a ∷ b ∷ c ∷ d ∷ xs) leaf long op four fits is =
    let rest : slice_range (a ∷ b ∷ c ∷ d ∷ xs) 4 (length (a ∷ b ∷ c ∷ d ∷ xs)) ≡ xs = take_all (length (a ∷ b ∷ c ∷ d ∷ xs) - 4) xs (omega arith) in
    let count : length xs ≡ 4 = ap length (sym rest) ∙ four in
    let number : to_be_bytes w32 leaf ++ drop 4 xs ≡ xs = number_and_rest xs leaf (omega (arith, count)) (λ i. fits (suc (suc (suc (suc i))))) (is ∙ ap (big_number 4) rest) in
    let whole : to_be_bytes w32 leaf ≡ xs = ap (λ (ys : List ℕ). to_be_bytes w32 leaf ++ ys) (sym (four_is_all xs count)) ∙ number in
    ap (λ (x : ℕ). x ∷ b ∷ c ∷ d ∷ xs) op ∙ ap (λ (ys : List ℕ). 6 ∷ b ∷ c ∷ d ∷ ys) (sym whole)

-- three bytes, a number of four, and the rest
pub store_is : (body : List ℕ) (leaf : ℕ) → 3 ≤ length body → get_or body 0 0 ≡ 7 → 4 ≤ length (slice_range body 3 (length body)) → IsBytes body
    → leaf ≡ big_number 4 (slice_range body 3 (length body))
    → body ≡ store_levels_body (get_or body 1 0) (get_or body 2 0) leaf (slice_range (slice_range body 3 (length body)) 4 (length (slice_range body 3 (length body))))
store_is [] leaf long op four fits is = absurd (omega arith)
store_is (a ∷ []) leaf long op four fits is = absurd (omega arith)
store_is (a ∷ b ∷ []) leaf long op four fits is = absurd (omega arith)
store_is (a ∷ b ∷ c ∷ xs) leaf long op four fits is =
    let rest : slice_range (a ∷ b ∷ c ∷ xs) 3 (length (a ∷ b ∷ c ∷ xs)) ≡ xs = take_all (length (a ∷ b ∷ c ∷ xs) - 3) xs (omega arith) in
    let count : 4 ≤ length xs = subst (λ (ys : List ℕ). 4 ≤ length ys) rest four in
    let records : slice_range xs 4 (length xs) ≡ drop 4 xs = take_all (length xs - 4) (drop 4 xs) (omega (arith, length-drop 4 xs)) in
    let number : to_be_bytes w32 leaf ++ drop 4 xs ≡ xs = number_and_rest xs leaf count (λ i. fits (suc (suc (suc i)))) (is ∙ ap (big_number 4) rest) in
    ap (λ (x : ℕ). x ∷ b ∷ c ∷ xs) op
    ∙ ap (λ (ys : List ℕ). 7 ∷ b ∷ c ∷ ys) (sym number ∙ ap (λ (ys : List ℕ). to_be_bytes w32 leaf ++ ys) (sym records ∙ ap (λ (ys : List ℕ). slice_range ys 4 (length ys)) (sym rest)))
