-- Numbers, stamps and records at the front of some bytes.
use Rattle.std.proofs.Common.{◌≡◌, ℕ, ◌+◌, ◌<◌, ◌^◌, arith, List, ◌++◌, length, drop, take, refl, sym, ap, ◌∙◌, subst, append_assoc, length-append, get_or}
use Rattle.std.specs.Int.{w64, from_be_bytes, to_be_bytes}
use Rattle.std.proofs.lemmas.List.{get_or-take, take-append-drop, take_at, drop_at, get_or_past, length-take}
use Rattle.std.proofs.lemmas.Nat.{be_bytes_8, from_be_bytes-to_be_bytes_8}
use Rattle.sha2.proofs.Facts256.{length-sha256}
use Rattle.sha2.specs.Sha256.{sha256}
use Rattle.oram_stamps.specs.Stamps.{AreNumbers, record_text, stamp_text, tag}
use Rattle.oram_stamps.specs.declared.stamp.Place.{Place}
use Rattle.oram_stamps.specs.declared.stamp.Stamp.{Stamp}

-- the parts of a text whose first part has the same length
pub parts_same : (a r b t : List ℕ) → length a ≡ length b → a ++ r ≡ b ++ t → (a ≡ b) × (r ≡ t)
parts_same a r b t long e = (
  sym (take_at a r (length a) refl) ∙ ap (take (length a)) e ∙ take_at b t (length a) (sym long),
  sym (drop_at a r (length a) refl) ∙ ap (drop (length a)) e ∙ drop_at b t (length a) (sym long),
)

-- the first eight bytes are those of the number that they are read as
pub number_front : (bytes number rest : List ℕ) (n : ℕ) → ((i : ℕ) → get_or bytes i 0 < 256) → number ≡ take 8 bytes → rest ≡ drop 8 bytes → length rest + 8 ≡ length bytes → n ≡ from_be_bytes w64 number
    → bytes ≡ to_be_bytes w64 n ++ rest
number_front bytes number rest n fit front back len is =
    let whole : bytes ≡ number ++ rest = sym (ap (λ (b : List ℕ). b ++ rest) front ∙ ap (λ (b : List ℕ). take 8 bytes ++ b) back ∙ take-append-drop 8 bytes) in
    let eight : length number ≡ 8 = omega (arith, ap length whole, length-append number rest, len) in
    let same : (i : ℕ) → i < 8 → get_or number i 0 ≡ get_or bytes i 0 = λ i k. ap (λ (b : List ℕ). get_or b i 0) front ∙ get_or-take 8 bytes i 0 k in
    let fits : (i : ℕ) → get_or number i 0 < 256 = λ i. grind (arith, same i, fit i, get_or_past number i 0) in
    whole ∙ ap (λ (b : List ℕ). b ++ rest) (sym (be_bytes_8 number n eight fits is))

pub number_same : (m n : ℕ) (r t : List ℕ) → m < 2 ^ 64 → n < 2 ^ 64 → to_be_bytes w64 m ++ r ≡ to_be_bytes w64 n ++ t → (m ≡ n) × (r ≡ t)
number_same m n r t low_m low_n e =
    let parts = parts_same (to_be_bytes w64 m) r (to_be_bytes w64 n) t refl e in
    (sym (from_be_bytes-to_be_bytes_8 m low_m) ∙ ap (from_be_bytes w64) parts.0 ∙ from_be_bytes-to_be_bytes_8 n low_n, parts.1)

pub length-stamp_text : (s : Stamp) → length (stamp_text s) ≡ 16
unfolding stamp_text
length-stamp_text s = refl

pub stamp_same : (a b : Stamp) (r t : List ℕ) → AreNumbers a → AreNumbers b → stamp_text a ++ r ≡ stamp_text b ++ t → (a ≡ b) × (r ≡ t)
unfolding stamp_text
stamp_same a b r t fits_a fits_b e =
    let first = number_same a.number b.number (to_be_bytes w64 a.check ++ r) (to_be_bytes w64 b.check ++ t) fits_a.number fits_b.number
    (sym (append_assoc (to_be_bytes w64 a.number) (to_be_bytes w64 a.check) r) ∙ e ∙ append_assoc (to_be_bytes w64 b.number) (to_be_bytes w64 b.check) t) in
    let second = number_same a.check b.check r t fits_a.check fits_b.check first.1 in
    (grind (arith, first.0, second.0), second.1)

pub length-tag : (key : List ℕ) (place : Place) (s : Stamp) → length (tag key place s) ≡ 32
unfolding tag
length-tag key place s = length-sha256 _

-- a record at the front of some bytes
pub record_front : (key : List ℕ) (place : Place) (s : Stamp) (bytes behind rest : List ℕ) → bytes ≡ stamp_text s ++ behind → behind ≡ tag key place s ++ rest → bytes ≡ record_text key place s ++ rest
unfolding record_text
record_front key place s bytes behind rest front next = front ∙ ap (λ (b : List ℕ). stamp_text s ++ b) next ∙ sym (append_assoc (stamp_text s) (tag key place s) rest)

-- a record after which other bytes follow tells of one stamp
pub record_same : (key : List ℕ) (place : Place) (a b : Stamp) (bytes r t : List ℕ) → AreNumbers a → AreNumbers b → bytes ≡ stamp_text a ++ r → bytes ≡ record_text key place b ++ t
    → (a ≡ b) × (r ≡ tag key place b ++ t)
unfolding record_text
record_same key place a b bytes r t fits_a fits_b one other =
    stamp_same a b r (tag key place b ++ t) fits_a fits_b (sym one ∙ other ∙ append_assoc (stamp_text b) (tag key place b) t)

pub record_long : (key : List ℕ) (place : Place) (s : Stamp) (rest : List ℕ) → length (record_text key place s ++ rest) ≡ 48 + length rest
unfolding record_text
record_long key place s rest =
    omega (arith, length-append (record_text key place s) rest, length-append (stamp_text s) (tag key place s), length-stamp_text s, length-tag key place s)

pub records_same : (key : List ℕ) (place : Place) (a b : Stamp) (r t : List ℕ) → AreNumbers a → AreNumbers b → record_text key place a ++ r ≡ record_text key place b ++ t → (a ≡ b) × (r ≡ t)
unfolding record_text
records_same key place a b r t fits_a fits_b e =
    let first = stamp_same a b (tag key place a ++ r) (tag key place b ++ t) fits_a fits_b
    (sym (append_assoc (stamp_text a) (tag key place a) r) ∙ e ∙ append_assoc (stamp_text b) (tag key place b) t) in
    (first.0, (parts_same (tag key place a) r (tag key place b) t (length-tag key place a ∙ sym (length-tag key place b)) first.1).1)
