-- The pages of a keeping, and what a content has once they are put.
use Rattle.std.proofs.Common.{◌≡◌, ◌⊎◌, inl, inr, ⊎_elim, ℕ, zero, suc, ◌+◌, ◌*◌, ◌<◌, ◌≤◌, List, [], ◌∷◌, ◌++◌, length, drop, get_or, refl, sym, ap, ◌∙◌, subst, arith, length-append, length-take, length-drop, ext_get_or}
use Rattle.std.specs.Prelude.{All}
use Rattle.std.specs.List.{Contains}
use Rattle.std.proofs.lemmas.Bool.{cases_eq, cases_lt}
use Rattle.std.proofs.lemmas.List.{length-map}
use Rattle.std.proofs.lemmas.List.Elements.{All-append, All-cons}
use Rattle.oram_kept.specs.Layout.{HasPages, HasRecords, HasTable, before_at, bytes_on, page_at, page_of, pages_for, records_at}
use Rattle.oram_kept.specs.Pages.{AreTold, AreToldPages, AreToldRecords, AreWritten, IsTold, StayInPlace, as_records, patches_at}
use Rattle.oram_kept.specs.Text.{Parts, table_bytes}
use Rattle.oram_kept.specs.declared.text.ChangedNumbers.{ChangedNumbers}
use Rattle.oram_kept.specs.declared.text.ChangedRecords.{ChangedRecords}
use Rattle.oram_kept.specs.declared.text.ChangedRecords.TheVariants.{Any, At}
use Rattle.oram_kept.proofs.Tables.{byte_at, length-on, length-numbers, told_in_bytes}
use Rattle.oram_kept.proofs.ToldPages.{few_rise}
use Rattle.oram_redo.specs.Content.{Content, Has, put}
use Rattle.oram_redo.specs.Log.{Patch, Spares, put_all}
use Rattle.oram_redo.proofs.Bytes.{has-put, has_same, put_outside}
use Rattle.oram_redo.proofs.Heal.{put_all-append, put_all_spares}

-- no bytes have no pages
pub no_pages : (start : ℕ) (c : Content) → HasPages [] start c
no_pages start c i within = absurd (omega (arith, within))

contains_later : (x : ℕ) (xs : List ℕ) (j : ℕ) → Contains xs j → Contains (x ∷ xs) j
contains_later x xs j is = (suc is.0, omega (arith, is.1), is.2)

contains_or_not : (xs : List ℕ) (j : ℕ) → Contains xs j ⊎ (Contains xs j → ⊥)
contains_or_not [] j = inr (λ is. omega (arith, is.1))
contains_or_not (x ∷ xs) j = elim (cases_eq x j) [
  | inl here ↦ inl (0, omega arith, here)
  | inr other ↦ elim (contains_or_not xs j) [
    | inl later ↦ inl (contains_later x xs j later)
    | inr none ↦ inr (λ is. not_here x xs j other none is.0 is.1 is.2)
  ]
]
  where
    not_here : (x : ℕ) (xs : List ℕ) (j : ℕ) → (x ≡ j → ⊥) → (Contains xs j → ⊥) → (k : ℕ) → k < length (x ∷ xs) → get_or (x ∷ xs) k j ≡ j → ⊥
    not_here x xs j other none zero within is = other is
    not_here x xs j other none (suc k) within is = none (k, omega (arith, within), is)

-- a patch ends here, and is no longer than a page
pub record Ends (end : ℕ) (p : Patch) : Type 0 where
  pub before : p.0 + length p.1 ≤ end
  pub short : length p.1 ≤ 1024

-- patches reach no place before the start or from the end on
pub record AreWithin (start end : ℕ) (patches : List Patch) : Type 0 where
  pub spares : (x : ℕ) → (x < start) ⊎ (end ≤ x) → Spares patches x
  pub ends : All (Ends end) patches

pub within_both : (start middle end : ℕ) (ps qs : List Patch) → start ≤ middle → middle ≤ end → AreWithin start middle ps → AreWithin middle end qs → AreWithin start end (ps ++ qs)
within_both start middle end ps qs first second left right = record {
  spares = λ x out. spares_both ps qs x (left.spares x (⊎_elim (λ low. inl low) (λ high. inr (omega (arith, second, high))) out)) (right.spares x (⊎_elim (λ low. inl (omega (arith, first, low))) (λ high. inr high) out));
  ends = All-append (Ends end) ps qs (λ k d below. let one = left.ends k d below in record { before = omega (arith, one.before, second); short = one.short }) right.ends;
}
  where
    spares_both : (ps qs : List Patch) (x : ℕ) → Spares ps x → Spares qs x → Spares (ps ++ qs) x
    spares_both [] qs x left right = right
    spares_both (p ∷ ps) qs x left right = (left.0, spares_both ps qs x left.1 right)

-- what a content has in places that patches spare stays
pub has_spared : (bytes : List ℕ) (at : ℕ) (ps : List Patch) (c : Content) → ((x : ℕ) → at ≤ x → x < at + length bytes → Spares ps x) → Has bytes at c → Has bytes at (put_all ps c)
has_spared bytes at ps c spared has = has_same bytes at c (put_all ps c) (λ x from to. put_all_spares ps c x (spared x from to)) has

module _ (start : ℕ) (bytes : List ℕ) where
  abbrev page : ℕ → List ℕ
  page j = page_of (bytes_on bytes j)

  -- a page that a content has stays, whatever pages of the part are put
  put_page : (i j : ℕ) (c : Content) → Has (page j) (page_at start j) c → Has (page j) (page_at start j) (put (page i) (page_at start i) c)
  put_page i j c has = elim (cases_eq j i) [
    | inl same ↦ subst (λ (k : ℕ). Has (page k) (page_at start k) (put (page i) (page_at start i) c)) (sym same) (has-put (page i) (page_at start i) c)
    | inr other ↦ has_same (page j) (page_at start j) c (put (page i) (page_at start i) c) (λ x from to. put_outside (page i) (page_at start i) c x (beside x from to other)) has
  ]
    where
      beside : (x : ℕ) → page_at start j ≤ x → x < page_at start j + length (page j) → (j ≡ i → ⊥) → (x < page_at start i) ⊎ (page_at start i + length (page i) ≤ x)
      beside x from to other = elim (cases_lt j i) [
        | inl below ↦ inl (omega (arith, to, below, length-on bytes j))
        | inr not_below ↦ inr (omega (arith, from, not_below, other, length-on bytes i))
      ]

  stays : (indexes : List ℕ) (j : ℕ) (c : Content) → Has (page j) (page_at start j) c → Has (page j) (page_at start j) (put_all (patches_at start bytes indexes) c)
  stays [] j c has = has
  stays (i ∷ indexes) j c has = stays indexes j (put (page i) (page_at start i) c) (put_page i j c has)

  there : (indexes : List ℕ) (j k : ℕ) (c : Content) → k < length indexes → get_or indexes k j ≡ j → Has (page j) (page_at start j) (put_all (patches_at start bytes indexes) c)
  there [] j k c within is = absurd (omega (arith, within))
  there (i ∷ indexes) j zero c within is =
      stays indexes j (put (page i) (page_at start i) c) (subst (λ (k : ℕ). Has (page k) (page_at start k) (put (page i) (page_at start i) c)) is (has-put (page i) (page_at start i) c))
  there (i ∷ indexes) j (suc k) c within is = there indexes j k (put (page i) (page_at start i) c) (omega (arith, within)) is

  -- the bytes on a page that isn't told are as before
  unchanged : (changes : ChangedRecords) (old : List ℕ) (j : ℕ) → AreToldRecords changes old bytes → (IsTold changes j → ⊥) → (length bytes ≡ length old) × (bytes_on old j ≡ bytes_on bytes j)
  unchanged Any old j told none = absurd (none tt)
  unchanged (At len indexes) old j told none = (told.long, ext_get_or 0 (bytes_on old j) (bytes_on bytes j) long each)
    where
      long : length (bytes_on old j) ≡ length (bytes_on bytes j)
      long = omega (arith, told.long, length-take 1016 (drop (j * 1016) old), length-drop (j * 1016) old, length-take 1016 (drop (j * 1016) bytes), length-drop (j * 1016) bytes)

      each : (k : ℕ) → k < length (bytes_on old j) → get_or (bytes_on old j) k 0 ≡ get_or (bytes_on bytes j) k 0
      each k within =
          let below : k < 1016 = omega (arith, within, length-take 1016 (drop (j * 1016) old)) in
          byte_at old j k below
          ∙ sym (told.others (j * 1016 + k) (λ i is byte. none (i, is, record { from = omega (arith, byte.from, below); to = omega (arith, byte.to) })))
          ∙ sym (byte_at bytes j k below)

  -- Once the told pages are put, a content that had the pages of the old bytes has those of the new ones.
  pub renewed : (changes : ChangedRecords) (old told : List ℕ) (c : Content) → AreToldPages changes (pages_for (length bytes)) told → AreToldRecords changes old bytes → HasPages old start c
      → HasPages bytes start (put_all (patches_at start bytes told) c)
  renewed changes old told c are differ has j within = elim (contains_or_not told j) [
    | inl is ↦ there told j is.0 c is.1 is.2
    | inr none ↦
        let same = unchanged changes old j differ (λ is. none (are.all j within is)) in
        stays told j c (subst (λ (l : List ℕ). Has (page_of l) (page_at start j) c) same.1 (has j (omega (arith, within, same.0))))
  ]

  pub told_within : (k end : ℕ) (told : List ℕ) → ((j : ℕ) → Contains told j → j < k) → page_at start k ≡ end → AreWithin start end (patches_at start bytes told)
  told_within k end [] below is = record { spares = λ x out. tt; ends = λ n d within. absurd (omega (arith, within)) }
  told_within k end (i ∷ told) below is =
      let rest = told_within k end told (λ j later. below j (contains_later i told j later)) is in
      let first : i < k = below i (0, omega arith, refl) in
      record {
        spares = λ x out. (⊎_elim (λ low. inl (omega (arith, low))) (λ high. inr (omega (arith, high, first, is, length-on bytes i))) out, rest.spares x out);
        ends = All-cons (Ends end) (page_at start i, page i) (patches_at start bytes told) (record { before = omega (arith, first, is, length-on bytes i); short = length-on bytes i }) rest.ends;
      }

pub table_end : (table : List ℕ) → page_at 8192 (pages_for (length (table_bytes table))) ≡ records_at table
table_end table = ap (λ (n : ℕ). page_at 8192 (pages_for n)) (length-numbers table)

-- The pages of a keeping are written.
module _ (changes : ChangedNumbers) (changed : ChangedRecords) (p : Parts) (pages : List Patch) (were : AreWritten changes changed p pages) where
  abbrev numbers : List Patch
  numbers = patches_at 8192 (table_bytes p.table) were.table

  abbrev records : List Patch
  records = patches_at (records_at p.table) p.records were.records

  table_within : AreWithin 8192 (records_at p.table) numbers
  table_within = told_within 8192 (table_bytes p.table) (pages_for (length (table_bytes p.table))) (records_at p.table) were.table (λ j is. (were.table_told.told j is).0) (table_end p.table)

  records_within : AreWithin (records_at p.table) (before_at p) records
  records_within = told_within (records_at p.table) p.records (pages_for (length p.records)) (before_at p) were.records (λ j is. (were.records_told.told j is).0) refl

  pub are_within : AreWithin 8192 (before_at p) pages
  are_within =
      subst (AreWithin 8192 (before_at p)) (sym were.are) (within_both 8192 (records_at p.table) (before_at p) numbers records (omega arith) (omega arith) table_within records_within)

  pub few : length pages ≤ pages_for (4 * length p.table) + pages_for (length p.records)
  few =
      let of_table : length numbers ≡ length were.table = length-map were.table (λ i. (page_at 8192 i, page_of (bytes_on (table_bytes p.table) i))) in
      let of_records : length records ≡ length were.records = length-map were.records (λ i. (page_at (records_at p.table) i, page_of (bytes_on p.records i))) in
      omega (
        arith,
        ap length were.are,
        length-append numbers records,
        of_table,
        of_records,
        length-numbers p.table,
        few_rise were.table (pages_for (length (table_bytes p.table))) were.table_told.rising (λ j is. (were.table_told.told j is).0),
        few_rise were.records (pages_for (length p.records)) were.records_told.rising (λ j is. (were.records_told.told j is).0),
      )

  put_both : (c : Content) → put_all pages c ≡ put_all records (put_all numbers c)
  put_both c = ap (λ (ps : List Patch). put_all ps c) were.are ∙ put_all-append numbers records c

  pub table_written : (old : List ℕ) (c : Content) → AreTold changes old p.table → HasTable old c → HasTable p.table (put_all pages c)
  table_written old c told has i within =
      let bytes : List ℕ = table_bytes p.table in
      let one : Has (page_of (bytes_on bytes i)) (page_at 8192 i) (put_all numbers c) =
      renewed 8192 bytes (as_records changes) (table_bytes old) were.table c were.table_told (told_in_bytes changes old p.table told) has i within in
      subst (Has (page_of (bytes_on bytes i)) (page_at 8192 i)) (sym (put_both c))
      (has_spared (page_of (bytes_on bytes i)) (page_at 8192 i) records (put_all numbers c)
      (λ x from to. records_within.spares x (inl (omega (arith, to, within, length-numbers p.table, length-on bytes i)))) one)

  -- records that stay at their place
  renewed_in_place : (old : List ℕ) (c : Content) → AreToldRecords changed old p.records → HasPages old (records_at p.table) c → HasRecords p.table p.records (put_all pages c)
  renewed_in_place old c told has =
      subst (HasPages p.records (records_at p.table)) (sym (put_both c))
      (renewed (records_at p.table) p.records changed old were.records (put_all numbers c) were.records_told told
      (λ i within. has_spared (page_of (bytes_on old i)) (page_at (records_at p.table) i) numbers c (λ x from to. table_within.spares x (inr (omega (arith, from)))) (has i within)))

-- the records that were kept before, at the place where they stand now
in_place : (changed : ChangedRecords) (old_table new_table old new : List ℕ) (c : Content) → StayInPlace changed old_table new_table → AreToldRecords changed old new → HasRecords old_table old c
    → (was : List ℕ) × AreToldRecords changed was new × HasPages was (records_at new_table) c
in_place Any old_table new_table old new c stay told has = ([], tt, no_pages (records_at new_table) c)
in_place (At len indexes) old_table new_table old new c stay told has =
    (old, told, subst (λ (n : ℕ). HasPages old (page_at 8192 (pages_for (4 * n))) c) (sym stay) has)

pub records_written : (changes : ChangedNumbers) (changed : ChangedRecords) (p : Parts) (pages : List Patch) → AreWritten changes changed p pages
    → (old_table old : List ℕ) (c : Content) → StayInPlace changed old_table p.table → AreToldRecords changed old p.records → HasRecords old_table old c → HasRecords p.table p.records (put_all pages c)
records_written changes changed p pages were old_table old c stay told has =
    let was = in_place changed old_table p.table old p.records c stay told has in
    renewed_in_place changes changed p pages were was.0 c was.1 was.2
