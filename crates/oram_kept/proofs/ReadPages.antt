-- Pages that are read.
use Rattle.std.proofs.Common.{◌≡◌, inl, inr, ℕ, ◌+◌, ◌-◌, ◌*◌, ◌<◌, ◌≤◌, List, [], ◌++◌, length, take, drop, refl, sym, ap, ap₂, ◌∙◌, subst, arith, length-append, length-take, length-drop, take_all, Option, Some, None, true, false}
use Rattle.std.specs.Option.{is_some}
use Rattle.std.specs.Prelude.{IfSome, min}
use Rattle.std.proofs.lemmas.Bool.{cases_eq, false≢true}
use Rattle.std.proofs.lemmas.List.{drop-append-le, drop-drop, drop_at, take-append-drop, take-append-le, take-take, take_at}
use Rattle.std.proofs.lemmas.List.Edits.{drop-paste, length-paste, take-paste}
use Rattle.std.proofs.Math.Seq.{paste}
use Rattle.oram_kept.specs.Layout.{HasPages, after_at, before_at, bytes_on, page_at, page_of, pages_for, records_at}
use Rattle.oram_kept.specs.Reading.{Says, records_place, texts_place}
use Rattle.oram_kept.specs.Text.{Parts, table_bytes}
use Rattle.oram_kept.specs.declared.head.Head.{Head}
use Rattle.oram_kept.proofs.Lists.{back_one, front_one}
use Rattle.oram_kept.proofs.Tables.{length-page, length-numbers}
use Rattle.oram_redo.specs.Content.{Content, Has}
use Rattle.oram_redo.specs.Log.{check_bytes}
use Rattle.oram_redo.proofs.Bytes.{has_along, has_back, has_front, has_one}

pub none_of : {A : Type 0} (found : Option A) → is_some found ≡ false → found ≡ None
none_of None none = refl
none_of (Some x) none = absurd (false≢true (sym none))

pub some_of : {A : Type 0} {P : A → Type 0} (found : Option A) → is_some found ≡ true → IfSome found P → (x : A) × P x
some_of (Some x) some is = (x, is)
some_of None some is = absurd (false≢true some)

pub if_some : {A : Type 0} {P Q : A → Type 0} (found : Option A) → IfSome found P → ((x : A) → P x → Q x) → IfSome found Q
if_some (Some x) is next = next x is
if_some None is next = tt

-- the bytes of a page, cut where its checksum begins
pub page_cut : (on bytes sum page : List ℕ) → page ≡ bytes ++ sum → length sum ≡ 8 → page_of on ≡ page → sum ≡ check_bytes bytes
page_cut on bytes sum page cut short is =
    let same : on ++ check_bytes on ≡ bytes ++ sum = is ∙ cut in
    let even : length on ≡ length bytes = omega (arith, ap length is, length-page on, ap length cut, length-append bytes sum, short) in
    sym (back_one on bytes (check_bytes on) sum even same) ∙ ap check_bytes (front_one on bytes (check_bytes on) sum even same)

-- a part of bytes that a content has
pub has_part : (bytes : List ℕ) (at i n : ℕ) (c : Content) → i ≤ length bytes → Has bytes at c → Has (take n (drop i bytes)) (at + i) c
has_part bytes at i n c within has =
    let part : List ℕ = take n (drop i bytes) in
    let rest : List ℕ = drop n (drop i bytes) in
    let cut : bytes ≡ take i bytes ++ (part ++ rest) = sym (take-append-drop i bytes) ∙ ap (λ (l : List ℕ). take i bytes ++ l) (sym (take-append-drop n (drop i bytes))) in
    let there : Has (take i bytes ++ (part ++ rest)) at c = subst_has bytes (take i bytes ++ (part ++ rest)) at c cut has in
    has_front part rest (at + i) c (has_along (part ++ rest) (at + length (take i bytes)) (at + i) c (omega (arith, within, length-take i bytes)) (has_back (take i bytes) (part ++ rest) at c there))
  where
    subst_has : (a b : List ℕ) (at : ℕ) (c : Content) → a ≡ b → Has a at c → Has b at c
    subst_has a b at c same has = subst (λ (l : List ℕ). Has l at c) same has

-- the bytes on a page of a part
pub length-bytes_on : (bytes : List ℕ) (i : ℕ) → length (bytes_on bytes i) ≡ min (length bytes - i * 1016) 1016
length-bytes_on bytes i = omega (arith, length-take 1016 (drop (i * 1016) bytes), length-drop (i * 1016) bytes)

-- The pages of `len` bytes, as they were read; the page with the index i among them has k bytes.
module _ (pages : List ℕ) (len i k : ℕ) (whole : length pages ≡ pages_for len * 1024) (within : i < pages_for len) (long : k ≡ min (len - i * 1016) 1016 + 8) where
  abbrev pub page : List ℕ
  page = take k (drop (i * 1024) pages)

  page_long : length page ≡ k
  page_long = omega (arith, whole, within, long, length-take k (drop (i * 1024) pages), length-drop (i * 1024) pages)

  -- its bytes are as many as there is room for, or as are left
  pub on_page : (bytes : List ℕ) → page_of bytes ≡ page → length bytes ≡ min (len - i * 1016) 1016
  on_page bytes is = omega (arith, ap length is, length-page bytes, page_long, long)

  -- they are the page without its checksum
  pub bytes_are : (bytes : List ℕ) (n : ℕ) → n ≡ min (len - i * 1016) 1016 → page_of bytes ≡ page → bytes ≡ take n (drop (i * 1024) pages)
  bytes_are bytes n on is =
      sym (take_at bytes (check_bytes bytes) n (on_page bytes is ∙ sym on)) ∙ ap (take n) is
      ∙ take-take n k (drop (i * 1024) pages) (omega (arith, on, long))

  pub page_has : (start : ℕ) (c : Content) → Has pages start c → Has page (page_at start i) c
  page_has start c has = has_part pages start (i * 1024) k c (omega (arith, whole, within)) has

  -- it is that of bytes of this length that the content has
  pub page_is : (start : ℕ) (c : Content) → Has pages start c → (bytes : List ℕ) → length bytes ≡ len → HasPages bytes start c → page_of (bytes_on bytes i) ≡ page
  page_is start c has bytes length_is there =
      has_one (page_of (bytes_on bytes i)) page (page_at start i) c (omega (arith, length-page (bytes_on bytes i), length-bytes_on bytes i, length_is, page_long, long))
      (there i (omega (arith, within, length_is))) (page_has start c has)

-- Of these pages of `len` bytes the first i were read, and they have these bytes.
pub record AreRead (pages : List ℕ) (len i : ℕ) (bytes : List ℕ) : Type 0 where
  pub long : length bytes ≡ min (i * 1016) len
  pub had : (start : ℕ) (c : Content) → Has pages start c → (j : ℕ) → j < i → Has (page_of (bytes_on bytes j)) (page_at start j) c

pub none_read : (pages : List ℕ) (len : ℕ) (bytes : List ℕ) → bytes ≡ [] → AreRead pages len 0 bytes
none_read pages len bytes none = record { long = omega (arith, ap length none); had = λ start c has j below. absurd (omega (arith, below)) }

-- one more page
module _ (pages : List ℕ) (len i : ℕ) (old added new : List ℕ) (within : i < pages_for len) (read : AreRead pages len i old) (few : length added ≡ min (len - i * 1016) 1016) (grown : new ≡ old ++ added) where
  before_full : length old ≡ i * 1016
  before_full = omega (arith, within, read.long)

  -- a page is as it was once bytes are appended behind it
  page_before : (j : ℕ) → j < i → bytes_on new j ≡ bytes_on old j
  page_before j below =
      ap (λ (l : List ℕ). bytes_on l j) grown
      ∙ ap (take 1016) (drop-append-le (j * 1016) old added (omega (arith, below, before_full)))
      ∙ take-append-le 1016 (drop (j * 1016) old) added (omega (arith, below, before_full, length-drop (j * 1016) old))

  -- the page of the bytes that were appended
  page_behind : bytes_on new i ≡ added
  page_behind = ap (λ (l : List ℕ). bytes_on l i) grown ∙ ap (take 1016) (drop_at old added (i * 1016) before_full) ∙ take_all 1016 added (omega (arith, few))

  pub one_read : ((start : ℕ) (c : Content) → Has pages start c → Has (page_of added) (page_at start i) c) → AreRead pages len (i + 1) new
  one_read has_added = record {
    long = omega (arith, within, ap length grown, length-append old added, before_full, few);
    had = λ start c has j below. elim (cases_eq j i) [
      | inl last ↦
          subst (λ (n : ℕ). Has (page_of (bytes_on new n)) (page_at start n) c) (sym last)
          (subst (λ (l : List ℕ). Has (page_of l) (page_at start i) c) (sym page_behind) (has_added start c has))
      | inr other ↦
          let before : j < i = omega (arith, below, other) in
          subst (λ (l : List ℕ). Has (page_of l) (page_at start j) c) (sym (page_before j before)) (read.had start c has j before)
    ];
  }

-- all pages were read
pub read_long : (pages : List ℕ) (len i : ℕ) (bytes : List ℕ) → AreRead pages len i bytes → pages_for len ≤ i → length bytes ≡ len
read_long pages len i bytes read ended = omega (arith, read.long, ended)

pub read_whole : (pages : List ℕ) (len i : ℕ) (bytes : List ℕ) → AreRead pages len i bytes → pages_for len ≤ i → (start : ℕ) (c : Content) → Has pages start c → HasPages bytes start c
read_whole pages len i bytes read ended start c has j within = read.had start c has j (omega (arith, within, ended, read_long pages len i bytes read ended))

-- Of these pages of `len` bytes the bytes of the first i were moved together, at the front of what is left.
pub record AreMoved (pages : List ℕ) (len i : ℕ) (now : List ℕ) : Type 0 where
  pub long : length now ≡ length pages
  pub rest : drop (i * 1024) now ≡ drop (i * 1024) pages
  pub read : AreRead pages len i (take (min (i * 1016) len) now)

pub none_moved : (pages : List ℕ) (len : ℕ) → AreMoved pages len 0 pages
none_moved pages len = record {
  long = refl;
  rest = refl;
  read = none_read pages len (take (min (0 * 1016) len) pages) (ap (λ (n : ℕ). take n pages) (let e : min (0 * 1016) len ≡ 0 = omega arith in e));
}

-- one more page
module _ (pages : List ℕ) (len i n : ℕ) (old new : List ℕ) (whole : length pages ≡ pages_for len * 1024) (within : i < pages_for len) (on : n ≡ min (len - i * 1016) 1016) (moved : AreMoved pages len i old)
    (grown : new ≡ paste old (i * 1016) (drop (i * 1024) old) n) where
  fits : i * 1016 + n ≤ length old
  fits = omega (arith, whole, within, on, moved.long)

  enough : n ≤ length (drop (i * 1024) old)
  enough = omega (arith, whole, within, on, moved.long, length-drop (i * 1024) old)

  front : take (min ((i + 1) * 1016) len) new ≡ take (min (i * 1016) len) old ++ take n (drop (i * 1024) pages)
  front =
      ap₂ (λ (k : ℕ) (l : List ℕ). take k l) (let e : min ((i + 1) * 1016) len ≡ i * 1016 + n = omega (arith, within, on) in e) grown
      ∙ take-paste old (i * 1016) (drop (i * 1024) old) n (omega (arith, fits)) enough
      ∙ ap₂ (λ (k : ℕ) (l : List ℕ). take k old ++ take n l) (let e : i * 1016 ≡ min (i * 1016) len = omega (arith, within) in e) moved.rest

  behind : drop ((i + 1) * 1024) new ≡ drop ((i + 1) * 1024) pages
  behind =
      let past : ℕ = (i + 1) * 1024 - (i * 1016 + n) in
      let next : ℕ = (i + 1) * 1024 - i * 1024 in
      let e : i * 1016 + n + past ≡ (i + 1) * 1024 = omega (arith, on) in
      let f : i * 1024 + next ≡ (i + 1) * 1024 = omega arith in
      ap (λ (k : ℕ). drop k new) (sym e) ∙ sym (drop-drop past (i * 1016 + n) new)
      ∙ ap (drop past) (ap (drop (i * 1016 + n)) grown ∙ drop-paste old (i * 1016) (drop (i * 1024) old) n (omega (arith, fits)) enough)
      ∙ drop-drop past (i * 1016 + n) old ∙ ap (λ (k : ℕ). drop k old) (e ∙ sym f)
      ∙ sym (drop-drop next (i * 1024) old) ∙ ap (drop next) moved.rest ∙ drop-drop next (i * 1024) pages ∙ ap (λ (k : ℕ). drop k pages) f

  pub one_moved : ((start : ℕ) (c : Content) → Has pages start c → Has (page_of (take n (drop (i * 1024) pages))) (page_at start i) c) → AreMoved pages len (i + 1) new
  one_moved has_page = record {
    long = ap length grown ∙ length-paste old (i * 1016) (drop (i * 1024) old) n fits enough ∙ moved.long;
    rest = behind;
    read = one_read pages len i (take (min (i * 1016) len) old) (take n (drop (i * 1024) pages)) (take (min ((i + 1) * 1016) len) new) within moved.read
        (omega (arith, whole, within, on, length-take n (drop (i * 1024) pages), length-drop (i * 1024) pages)) front has_page;
  }

-- A head gives the lengths of the parts of a text. The places that follow from these are the places of the parts.
module _ (head : Head) (p : Parts) (says : Says head p) where
  pub same_records_place : records_place head ≡ records_at p.table
  same_records_place = ap (λ (n : ℕ). page_at 8192 (pages_for (4 * n))) (sym says.table)

  pub same_texts_place : texts_place head ≡ before_at p
  same_texts_place = ap₂ (λ (start n : ℕ). page_at start (pages_for n)) same_records_place (sym says.records)

  module _ (before after texts : List ℕ) (cut : texts ≡ before ++ after) (c : Content) (has : Has texts (texts_place head) c) where
    both : Has (before ++ after) (before_at p) c
    both = subst (λ (l : List ℕ). Has l (before_at p) c) cut (has_along texts (texts_place head) (before_at p) c same_texts_place has)

    pub has_before : Has before (before_at p) c
    has_before = has_front before after (before_at p) c both

    pub has_after : length p.before ≡ length before → Has after (after_at p) c
    has_after long = has_along after (before_at p + length before) (after_at p) c (omega (arith, long)) (has_back before after (before_at p) c both)

-- the table has four bytes for each number that the head says
pub length_of_table : (p : Parts) (head : Head) → Says head p → length (table_bytes p.table) ≡ 4 * head.table
length_of_table p head says = omega (arith, length-numbers p.table, says.table)
