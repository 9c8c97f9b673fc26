-- The two numbers of a request.
use Rattle.std.proofs.Common.{◌≡◌, ℕ, ◌+◌, ◌-◌, ◌<◌, ◌≤◌, arith, List, [], ◌∷◌, ◌++◌, length, drop, take, get_or, slice_range, sym, ap, ◌∙◌, subst, length-drop, take_all}
use Rattle.std.specs.Int.{w32, to_be_bytes}
use Rattle.std.proofs.lemmas.List.{get_or-drop}
use Rattle.byteorder.specs.Endian.{big_number}
use Rattle.byteorder.specs.Numbers.{big_number-reads_back}
use Rattle.oram_wire.proofs.Numbers.{IsBytes, be_bytes-big_number, number_and_rest}
use Rattle.oram_records.specs.Messages.{HasNumbers, records_body}
use Rattle.oram_records.specs.declared.request.RecordsRequest.{RecordsRequest}

pub pair_is : (xs : List ℕ) (m n : ℕ) → length xs ≡ 8 → IsBytes xs → m ≡ big_number 4 xs → n ≡ big_number 4 (slice_range xs 4 (length xs)) → xs ≡ to_be_bytes w32 m ++ to_be_bytes w32 n
pair_is xs m n eight fits first second =
    let count : length (drop 4 xs) ≡ 4 = length-drop 4 xs ∙ omega (arith, eight) in
    let rest : slice_range xs 4 (length xs) ≡ drop 4 xs = take_all (length xs - 4) (drop 4 xs) (omega (arith, count, eight)) in
    let fits_too : IsBytes (drop 4 xs) = λ i. subst (λ (b : ℕ). b < 256) (sym (get_or-drop 4 xs i 0)) (fits (4 + i)) in
    let back : to_be_bytes w32 n ≡ drop 4 xs =
    ap (to_be_bytes w32) (second ∙ ap (big_number 4) rest) ∙ be_bytes-big_number (drop 4 xs) (omega (arith, count)) fits_too ∙ take_all 4 (drop 4 xs) (omega (arith, count)) in
    sym (ap (λ (b : List ℕ). to_be_bytes w32 m ++ b) back ∙ number_and_rest xs m (omega (arith, eight)) fits first)

-- two requests with one body are the same
pub one_request : (p q : RecordsRequest) → HasNumbers p → HasNumbers q → records_body p ≡ records_body q → p ≡ q
one_request p q p_fits q_fits same =
    let tree : p.tree ≡ q.tree = ap (λ (body : List ℕ). get_or body 2 0) same in
    let first : p.first ≡ q.first =
    sym (big_number-reads_back 4 p.first (to_be_bytes w32 p.count) (omega (arith, p_fits.0))) ∙ ap (λ (body : List ℕ). big_number 4 (drop 3 body)) same
    ∙ big_number-reads_back 4 q.first (to_be_bytes w32 q.count) (omega (arith, q_fits.0)) in
    let count : p.count ≡ q.count =
    sym (big_number-reads_back 4 p.count [] (omega (arith, p_fits.1))) ∙ ap (λ (body : List ℕ). big_number 4 (drop 7 body ++ [])) same
    ∙ big_number-reads_back 4 q.count [] (omega (arith, q_fits.1)) in
    ap (λ (x : ℕ). record { tree = x; first = p.first; count = p.count }) tree ∙ ap (λ (x : ℕ). record { tree = q.tree; first = x; count = p.count }) first
    ∙ ap (λ (x : ℕ). record { tree = q.tree; first = q.first; count = x }) count

-- a body after its first three bytes
pub body_is : (body : List ℕ) → 3 ≤ length body → get_or body 0 0 ≡ 5 → get_or body 1 0 ≡ 0 → body ≡ 5 ∷ 0 ∷ get_or body 2 0 ∷ slice_range body 3 (length body)
body_is [] long five now = absurd (omega arith)
body_is (a ∷ []) long five now = absurd (omega arith)
body_is (a ∷ b ∷ []) long five now = absurd (omega arith)
body_is (a ∷ b ∷ c ∷ xs) long five now =
    let rest : take (length (a ∷ b ∷ c ∷ xs) - 3) xs ≡ xs = take_all (length (a ∷ b ∷ c ∷ xs) - 3) xs (omega arith) in
    ap (λ (x : ℕ). x ∷ b ∷ c ∷ xs) five ∙ ap (λ (x : ℕ). 5 ∷ x ∷ c ∷ xs) now ∙ ap (λ (ys : List ℕ). 5 ∷ 0 ∷ c ∷ ys) (sym rest)
