-- A content holds one text.
use Rattle.std.proofs.Common.{◌≡◌, ℕ, ◌+◌, ◌*◌, ◌<◌, ◌^◌, List, [], ◌∷◌, length, drop, refl, sym, ap, ap₂, ◌∙◌, arith, length-take, length-drop}
use Rattle.std.specs.Prelude.{All}
use Rattle.std.specs.Int.{w32, from_be_bytes}
use Rattle.std.proofs.lemmas.Nat.{from_be_bytes-to_be_bytes_4}
use Rattle.oram_kept.specs.Laws.{TextsAreOne}
use Rattle.oram_kept.specs.Layout.{HasPages, Holds, after_at, before_at, bytes_on, check_of, head_of, lengths, page_at, page_of, pages_for, records_at}
use Rattle.oram_kept.specs.Reading.{Says}
use Rattle.oram_kept.specs.Text.{Parts, number_bytes, table_bytes}
use Rattle.oram_kept.specs.declared.head.Head.{Head}
use Rattle.oram_kept.proofs.Heads.{length-lengths, says}
use Rattle.oram_kept.proofs.Held.{length-head}
use Rattle.oram_kept.proofs.Lists.{back_one, front_one}
use Rattle.oram_kept.proofs.Tables.{length-number, length-page, length-numbers, same_bytes}
use Rattle.oram_redo.specs.Content.{Content}
use Rattle.oram_redo.specs.Log.{check_bytes}
use Rattle.oram_redo.proofs.Bytes.{has_along, has_one}
use Rattle.oram_redo.proofs.Logs.{all_first, all_rest}

number_one : (a b : ℕ) → a < 2 ^ 32 → b < 2 ^ 32 → number_bytes a ≡ number_bytes b → a ≡ b
unfolding number_bytes
number_one a b fits_a fits_b same = sym (from_be_bytes-to_be_bytes_4 a fits_a) ∙ ap (from_be_bytes w32) same ∙ from_be_bytes-to_be_bytes_4 b fits_b

pub numbers_one : (xs ys : List ℕ) → length xs ≡ length ys → All (λ n. n < 2 ^ 32) xs → All (λ n. n < 2 ^ 32) ys → table_bytes xs ≡ table_bytes ys → xs ≡ ys
numbers_one [] [] long fits_x fits_y same = refl
numbers_one [] (y ∷ ys) long fits_x fits_y same = absurd (omega (arith, long))
numbers_one (x ∷ xs) [] long fits_x fits_y same = absurd (omega (arith, long))
numbers_one (x ∷ xs) (y ∷ ys) long fits_x fits_y same =
    let four = length-number x ∙ sym (length-number y) in
    let first : x ≡ y = number_one x y (all_first (λ n. n < 2 ^ 32) x xs fits_x) (all_first (λ n. n < 2 ^ 32) y ys fits_y) (front_one (number_bytes x) (number_bytes y) (table_bytes xs) (table_bytes ys) four same) in
    let rest : xs ≡ ys = numbers_one xs ys (omega (arith, long)) (all_rest (λ n. n < 2 ^ 32) x xs fits_x) (all_rest (λ n. n < 2 ^ 32) y ys fits_y)
    (back_one (number_bytes x) (number_bytes y) (table_bytes xs) (table_bytes ys) four same) in
    (λ i. first i ∷ rest i)

-- a content has the pages of one list of bytes of a length
pages_one : (xs ys : List ℕ) (start : ℕ) (c : Content) → length xs ≡ length ys → HasPages xs start c → HasPages ys start c → xs ≡ ys
pages_one xs ys start c long has_x has_y = same_bytes xs ys long each
  where
    each : (i : ℕ) → i < pages_for (length xs) → bytes_on xs i ≡ bytes_on ys i
    each i within =
        let even : length (bytes_on xs i) ≡ length (bytes_on ys i) =
        omega (arith, long, length-take 1016 (drop (i * 1016) xs), length-drop (i * 1016) xs, length-take 1016 (drop (i * 1016) ys), length-drop (i * 1016) ys) in
        front_one (bytes_on xs i) (bytes_on ys i) (check_bytes (bytes_on xs i)) (check_bytes (bytes_on ys i)) even
        (has_one (page_of (bytes_on xs i)) (page_of (bytes_on ys i)) (page_at start i) c (omega (arith, even, length-page (bytes_on xs i), length-page (bytes_on ys i))) (has_x i within) (has_y i (omega (arith, within, long))))

module _ (p q : Parts) (c : Content) (a : Holds p c) (b : Holds q c) where
  abbrev head : Head
  head = record { before = length q.before; table = length q.table; after = length q.after; records = length q.records; check = check_of q.before q.after }

  -- the head of the one says the lengths of the other
  said : Says head p
  said =
      says head p
      (front_one (lengths p) (lengths q) (check_bytes (lengths p)) (check_bytes (lengths q)) (length-lengths p ∙ sym (length-lengths q))
      (has_one (head_of p) (head_of q) 4096 c (length-head p ∙ sym (length-head q)) a.head b.head))
      a.room (omega (arith, b.room.before), omega (arith, b.room.table), omega (arith, b.room.after), omega (arith, b.room.records))

  table_one : p.table ≡ q.table
  table_one =
      numbers_one p.table q.table said.table a.room.numbers b.room.numbers
      (pages_one (table_bytes p.table) (table_bytes q.table) 8192 c (omega (arith, said.table, length-numbers p.table, length-numbers q.table)) a.table b.table)

  records_place : records_at p.table ≡ records_at q.table
  records_place = ap (λ (n : ℕ). page_at 8192 (pages_for (4 * n))) said.table

  records_one : p.records ≡ q.records
  records_one =
      pages_one p.records q.records (records_at q.table) c said.records
      (λ i within. has_along (page_of (bytes_on p.records i)) (page_at (records_at p.table) i) (page_at (records_at q.table) i) c (ap (λ (start : ℕ). page_at start i) records_place) (a.records i within)) b.records

  before_place : before_at p ≡ before_at q
  before_place = ap₂ (λ (start n : ℕ). page_at start (pages_for n)) records_place said.records

  before_one : p.before ≡ q.before
  before_one = has_one p.before q.before (before_at q) c said.before (has_along p.before (before_at p) (before_at q) c before_place a.before) b.before

  after_one : p.after ≡ q.after
  after_one = has_one p.after q.after (after_at q) c said.after (has_along p.after (after_at p) (after_at q) c (λ i. before_place i + said.before i) a.after) b.after

pub texts_are_one : TextsAreOne
texts_are_one p q c a b = λ i. record { before = before_one p q c a b i; table = table_one p q c a b i; after = after_one p q c a b i; records = records_one p q c a b i }
