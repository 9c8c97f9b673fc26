-- The bytes of a table's numbers, and the bytes on pages.
use Rattle.std.proofs.Common.{◌≡◌, ℕ, zero, suc, ◌+◌, ◌*◌, ◌/◌, ◌%◌, ◌<◌, ◌≤◌, List, [], ◌∷◌, ◌++◌, length, take, drop, get_or, refl, sym, ap, ◌∙◌, arith, length-append, length-take, ext_get_or, get_or-take, get_or-drop}
use Rattle.std.proofs.Math.ListN.{get_or-append}
use Rattle.std.proofs.Math.Seq.{drop-append-add, drop-nil, take-append-add, take-nil}
use Rattle.std.proofs.lemmas.List.{get_or-append-add}
use Rattle.oram_kept.specs.Layout.{bytes_on, page_of, pages_for}
use Rattle.oram_kept.specs.Pages.{AreTold, AreToldRecords, as_records}
use Rattle.oram_kept.specs.declared.text.ChangedNumbers.{ChangedNumbers}
use Rattle.oram_kept.specs.declared.text.ChangedNumbers.TheVariants.{Any, At}
use Rattle.oram_kept.specs.Text.{number_bytes, table_bytes}
use Rattle.oram_redo.specs.Log.{check_bytes}
use Rattle.oram_redo.proofs.Logs.{length-check_bytes}

-- a byte is on a page
byte_on : (bytes : List ℕ) (x : ℕ) → get_or bytes x 0 ≡ get_or (bytes_on bytes (x / 1016)) (x % 1016) 0
byte_on bytes x =
    ap (λ (k : ℕ). get_or bytes k 0) (let e : x ≡ x / 1016 * 1016 + x % 1016 = omega arith in e)
    ∙ sym (get_or-drop (x / 1016 * 1016) bytes (x % 1016) 0)
    ∙ sym (get_or-take 1016 (drop (x / 1016 * 1016) bytes) (x % 1016) 0 (omega arith))

-- bytes are told by those on their pages
pub same_bytes : (xs ys : List ℕ) → length xs ≡ length ys → ((i : ℕ) → i < pages_for (length xs) → bytes_on xs i ≡ bytes_on ys i) → xs ≡ ys
same_bytes xs ys long same = ext_get_or 0 xs ys long (λ x below. byte_on xs x ∙ ap (λ (l : List ℕ). get_or l (x % 1016) 0) (same (x / 1016) (omega arith)) ∙ sym (byte_on ys x))

-- a byte on a page is one of all
pub byte_at : (bytes : List ℕ) (j k : ℕ) → k < 1016 → get_or (bytes_on bytes j) k 0 ≡ get_or bytes (j * 1016 + k) 0
byte_at bytes j k below = get_or-take 1016 (drop (j * 1016) bytes) k 0 below ∙ get_or-drop (j * 1016) bytes k 0

pub length-number : (n : ℕ) → length (number_bytes n) ≡ 4
unfolding number_bytes
length-number n = refl

pub length-numbers : (table : List ℕ) → length (table_bytes table) ≡ 4 * length table
length-numbers [] = refl
length-numbers (n ∷ table) = omega (arith, length-append (number_bytes n) (table_bytes table), length-number n, length-numbers table)

pub length-page : (bytes : List ℕ) → length (page_of bytes) ≡ length bytes + 8
length-page bytes = omega (arith, length-append bytes (check_bytes bytes), length-check_bytes bytes)

pub length-on : (bytes : List ℕ) (i : ℕ) → length (page_of (bytes_on bytes i)) ≤ 1024
length-on bytes i = omega (arith, length-page (bytes_on bytes i), length-take 1016 (drop (i * 1016) bytes))

drop_numbers : (k : ℕ) (table : List ℕ) → drop (4 * k) (table_bytes table) ≡ table_bytes (drop k table)
drop_numbers zero table = refl
drop_numbers (suc k) [] = drop-nil (4 * suc k)
drop_numbers (suc k) (n ∷ table) =
    ap (λ (i : ℕ). drop i (number_bytes n ++ table_bytes table)) (let e : 4 * suc k ≡ length (number_bytes n) + 4 * k = omega (arith, length-number n) in e)
    ∙ drop-append-add (number_bytes n) (table_bytes table) (4 * k) ∙ drop_numbers k table

take_numbers : (k : ℕ) (table : List ℕ) → take (4 * k) (table_bytes table) ≡ table_bytes (take k table)
take_numbers zero table = refl
take_numbers (suc k) [] = take-nil (4 * suc k)
take_numbers (suc k) (n ∷ table) =
    ap (λ (i : ℕ). take i (number_bytes n ++ table_bytes table)) (let e : 4 * suc k ≡ length (number_bytes n) + 4 * k = omega (arith, length-number n) in e)
    ∙ take-append-add (number_bytes n) (table_bytes table) (4 * k) ∙ ap (λ (l : List ℕ). number_bytes n ++ l) (take_numbers k table)

-- the numbers on a page
pub numbers_on : (table : List ℕ) (i : ℕ) → table_bytes (take 254 (drop (i * 254) table)) ≡ bytes_on (table_bytes table) i
numbers_on table i =
    sym (take_numbers 254 (drop (i * 254) table))
    ∙ ap (take 1016) (sym (drop_numbers (i * 254) table) ∙ ap (λ (k : ℕ). drop k (table_bytes table)) (let e : 4 * (i * 254) ≡ i * 1016 = omega arith in e))

zero_byte : (r : ℕ) → r < 4 → 0 ≡ get_or (number_bytes 0) r 0
unfolding number_bytes
zero_byte zero below = refl
zero_byte (suc zero) below = refl
zero_byte (suc (suc zero)) below = refl
zero_byte (suc (suc (suc zero))) below = refl
zero_byte (suc (suc (suc (suc r)))) below = absurd (omega arith)

-- a byte of a number of a table
byte_of : (table : List ℕ) (q r : ℕ) → r < 4 → get_or (table_bytes table) (4 * q + r) 0 ≡ get_or (number_bytes (get_or table q 0)) r 0
byte_of [] q r below = zero_byte r below
byte_of (n ∷ table) zero r below =
    ap (λ (i : ℕ). get_or (number_bytes n ++ table_bytes table) i 0) (let e : 4 * 0 + r ≡ r = omega arith in e)
    ∙ get_or-append (number_bytes n) (table_bytes table) 0 r (omega (arith, below, length-number n))
byte_of (n ∷ table) (suc q) r below =
    ap (λ (i : ℕ). get_or (number_bytes n ++ table_bytes table) i 0) (let e : 4 * suc q + r ≡ length (number_bytes n) + (4 * q + r) = omega (arith, length-number n) in e)
    ∙ get_or-append-add (number_bytes n) (table_bytes table) (4 * q + r) 0 ∙ byte_of table q r below

-- What is told of a table's numbers is told of its bytes, too.
pub told_in_bytes : (changes : ChangedNumbers) (old new : List ℕ) → AreTold changes old new → AreToldRecords (as_records changes) (table_bytes old) (table_bytes new)
told_in_bytes Any old new told = tt
told_in_bytes (At indexes) old new told = record {
  long = omega (arith, told.long, length-numbers old, length-numbers new);
  others = λ x none.
      let q : ℕ = x / 4 in
      let r : ℕ = x % 4 in
      let at : x ≡ 4 * q + r = omega arith in
      let same : get_or new q 0 ≡ get_or old q 0 = told.others q (λ is. none q is (record { from = omega (arith, at); to = omega (arith, at) })) in
      ap (λ (i : ℕ). get_or (table_bytes new) i 0) at
      ∙ byte_of new q r (omega arith) ∙ ap (λ (n : ℕ). get_or (number_bytes n) r 0) same ∙ sym (byte_of old q r (omega arith))
      ∙ ap (λ (i : ℕ). get_or (table_bytes old) i 0) (sym at);
}
