-- Numbers at the front of some bytes.
use Rattle.std.proofs.Common.{◌≡◌, ℕ, ◌+◌, ◌<◌, ◌^◌, arith, List, ◌++◌, length, drop, take, refl, sym, ap, ◌∙◌, length-append, get_or}
use Rattle.std.specs.Int.{w32, w64, from_be_bytes, to_be_bytes}
use Rattle.std.proofs.lemmas.List.{get_or-take, take-append-drop, take_at, drop_at, get_or_past}
use Rattle.std.proofs.lemmas.Nat.{be_bytes_4, be_bytes_8, from_be_bytes-to_be_bytes_4, from_be_bytes-to_be_bytes_8}

-- the parts of a text whose first part has the same length
pub parts_same : (a r b t : List ℕ) → length a ≡ length b → a ++ r ≡ b ++ t → (a ≡ b) × (r ≡ t)
parts_same a r b t long e = (
  sym (take_at a r (length a) refl) ∙ ap (take (length a)) e ∙ take_at b t (length a) (sym long),
  sym (drop_at a r (length a) refl) ∙ ap (drop (length a)) e ∙ drop_at b t (length a) (sym long),
)

-- the first bytes, and those behind them, which are bytes too
front_is : (n : ℕ) (bytes number rest : List ℕ) → ((i : ℕ) → get_or bytes i 0 < 256) → number ≡ take n bytes → rest ≡ drop n bytes → length rest + n ≡ length bytes
    → (bytes ≡ number ++ rest) × (length number ≡ n) × ((i : ℕ) → get_or number i 0 < 256)
front_is n bytes number rest fit front back len =
    let whole : bytes ≡ number ++ rest = sym (ap (λ (b : List ℕ). b ++ rest) front ∙ ap (λ (b : List ℕ). take n bytes ++ b) back ∙ take-append-drop n bytes) in
    let long : length number ≡ n = omega (arith, ap length whole, length-append number rest, len) in
    let same : (i : ℕ) → i < n → get_or number i 0 ≡ get_or bytes i 0 = λ i k. ap (λ (b : List ℕ). get_or b i 0) front ∙ get_or-take n bytes i 0 k in
    (whole, long, λ i. grind (arith, same i, fit i, get_or_past number i 0))

-- the first eight bytes are those of the number that they are read as
pub long_front : (bytes number rest : List ℕ) (n : ℕ) → ((i : ℕ) → get_or bytes i 0 < 256) → number ≡ take 8 bytes → rest ≡ drop 8 bytes → length rest + 8 ≡ length bytes → n ≡ from_be_bytes w64 number
    → bytes ≡ to_be_bytes w64 n ++ rest
long_front bytes number rest n fit front back len is =
    let parts = front_is 8 bytes number rest fit front back len in
    parts.0 ∙ ap (λ (b : List ℕ). b ++ rest) (sym (be_bytes_8 number n parts.1 parts.2 is))

-- the first four bytes are those of the number that they are read as
pub short_front : (bytes number rest : List ℕ) (n : ℕ) → ((i : ℕ) → get_or bytes i 0 < 256) → number ≡ take 4 bytes → rest ≡ drop 4 bytes → length rest + 4 ≡ length bytes → n ≡ from_be_bytes w32 number
    → bytes ≡ to_be_bytes w32 n ++ rest
short_front bytes number rest n fit front back len is =
    let parts = front_is 4 bytes number rest fit front back len in
    parts.0 ∙ ap (λ (b : List ℕ). b ++ rest) (sym (be_bytes_4 number n parts.1 parts.2 is))

-- a number of eight bytes and what follows it can be told apart
pub long_same : (m n : ℕ) (r t : List ℕ) → m < 2 ^ 64 → n < 2 ^ 64 → to_be_bytes w64 m ++ r ≡ to_be_bytes w64 n ++ t → (m ≡ n) × (r ≡ t)
long_same m n r t low_m low_n e =
    let parts = parts_same (to_be_bytes w64 m) r (to_be_bytes w64 n) t refl e in
    (sym (from_be_bytes-to_be_bytes_8 m low_m) ∙ ap (from_be_bytes w64) parts.0 ∙ from_be_bytes-to_be_bytes_8 n low_n, parts.1)

-- a number of four bytes and what follows it can be told apart
pub short_same : (m n : ℕ) (r t : List ℕ) → m < 2 ^ 32 → n < 2 ^ 32 → to_be_bytes w32 m ++ r ≡ to_be_bytes w32 n ++ t → (m ≡ n) × (r ≡ t)
short_same m n r t low_m low_n e =
    let parts = parts_same (to_be_bytes w32 m) r (to_be_bytes w32 n) t refl e in
    (sym (from_be_bytes-to_be_bytes_4 m low_m) ∙ ap (from_be_bytes w32) parts.0 ∙ from_be_bytes-to_be_bytes_4 n low_n, parts.1)
