-- The program's texts and pages, as the definitions speak of them.
use Rattle.std.specs.Prelude.{◌≡◌, ◌⊎◌, ◌<◌, ◌≤◌, ℕ, ◌+◌, ◌*◌, List, [], ◌∷◌, ◌++◌, length, map, slice_index_or, ⊤}
use Rattle.std.specs.List.{Contains}
use Rattle.std.specs.List.Sorted.{IsStrictlyIncreasing}
use Rattle.oram_kept.specs.Layout.{after_at, before_at, bytes_on, page_at, page_of, pages_for, records_at}
use Rattle.oram_kept.specs.Text.{Parts, table_bytes}
use Rattle.oram_kept.specs.declared.pages.Page.{Page}
use Rattle.oram_kept.specs.declared.pages.PagedPart.{PagedPart}
use Rattle.oram_kept.specs.declared.pages.PagedPart.TheVariants.{Records, Table}
use Rattle.oram_kept.specs.declared.text.ChangedNumbers.{ChangedNumbers}
use Rattle.oram_kept.specs.declared.text.ChangedNumbers.TheVariants as numbers
use Rattle.oram_kept.specs.declared.text.ChangedRecords.{ChangedRecords}
use Rattle.oram_kept.specs.declared.text.ChangedRecords.TheVariants.{Any, At}
use Rattle.oram_kept.specs.declared.text.TextParts.{TextParts}
use Rattle.oram_redo.specs.Log.{Patch}

abbrev pub parts_of : TextParts → Parts
parts_of text = record { before = text.title.now ++ text.before.now; table = text.table.now; after = text.after.now; records = text.records.now }

-- the bytes that stand in pages
abbrev pub bytes_of : PagedPart → List ℕ
bytes_of (Table table) = table_bytes table.now
bytes_of (Records records) = records.now

-- a page as a patch of the redo log
abbrev pub patch_of : Page → Patch
patch_of page = (page.at, page.bytes.items)

abbrev pub patches_of : List Page → List Patch
patches_of pages = map patch_of pages

-- the pages of these bytes with these indexes, and their places if the first page stands at `start`
abbrev pub patches_at : ℕ → List ℕ → List ℕ → List Patch
patches_at start bytes indexes = map (λ i. (page_at start i, page_of (bytes_on bytes i))) indexes

-- the batch of a keeping: the pages that change, the text before the table, in two pieces, the one behind it, and the head
abbrev pub batch_for : List Patch → Parts → List ℕ → List ℕ → List ℕ → List Patch
batch_for pages p title before head = pages ++ (before_at p, title) ∷ (before_at p + length title, before) ∷ (after_at p, p.after) ∷ (4096, head) ∷ []

-- two tables of one length have the same numbers, except perhaps those at these indexes
pub record DifferAtMost (indexes : List ℕ) (old new : List ℕ) : Type 0 where
  pub long : length new ≡ length old
  pub others : (i : ℕ) → (Contains indexes i → ⊥) → slice_index_or new i 0 ≡ slice_index_or old i 0

-- a table has become another one, and this tells of each number that differs
abbrev pub AreTold : ChangedNumbers → List ℕ → List ℕ → Type 0
AreTold numbers.Any old new = ⊤
AreTold (numbers.At indexes) old new = DifferAtMost indexes.now old new

-- The byte at x is one of the record with the index i. Each record has `len` bytes.
pub record IsByteOf (len i x : ℕ) : Type 0 where
  pub from : i * len ≤ x
  pub to : x < i * len + len

-- The bytes of records, `len` bytes each, have become as many others, and only the records with these indexes may differ.
pub record DifferInRecords (len : ℕ) (indexes : List ℕ) (old new : List ℕ) : Type 0 where
  pub long : length new ≡ length old
  pub others : (x : ℕ) → ((i : ℕ) → Contains indexes i → IsByteOf len i x → ⊥) → slice_index_or new x 0 ≡ slice_index_or old x 0

-- the bytes of records have become others, and this tells of each record that differs
abbrev pub AreToldRecords : ChangedRecords → List ℕ → List ℕ → Type 0
AreToldRecords Any old new = ⊤
AreToldRecords (At len indexes) old new = DifferInRecords len indexes.now old new

-- The records stay at their place if some of them may be left as they are: the table before them is as long as before.
abbrev pub StayInPlace : ChangedRecords → List ℕ → List ℕ → Type 0
StayInPlace Any old new = ⊤
StayInPlace (At len indexes) old new = length new ≡ length old

-- a number of a table is a record of four bytes
abbrev pub as_records : ChangedNumbers → ChangedRecords
as_records numbers.Any = Any
as_records (numbers.At indexes) = At 4 indexes

-- the page with the index j has bytes of the record with the index i
pub record IsPageOf (len i j : ℕ) : Type 0 where
  pub from : i * len < (j + 1) * 1016
  pub to : j * 1016 < i * len + len

-- the page with this index has bytes of a record that may have changed
abbrev pub IsTold : ChangedRecords → ℕ → Type 0
IsTold Any j = ⊤
IsTold (At len indexes) j = (i : ℕ) × Contains indexes.now i × IsPageOf len i j

-- Of `count` pages, these are the indexes of all that have bytes of a record that may have changed, each once and in rising order.
pub record AreToldPages (changes : ChangedRecords) (count : ℕ) (pages : List ℕ) : Type 0 where
  pub rising : IsStrictlyIncreasing pages
  pub told : (j : ℕ) → Contains pages j → (j < count) × IsTold changes j
  pub all : (j : ℕ) → j < count → IsTold changes j → Contains pages j

-- Those indexes from `first` on and before `end` that are greater than all of the old ones, which rise, are put behind them.
pub record AddsRange (first end : ℕ) (old new : List ℕ) : Type 0 where
  pub rising : IsStrictlyIncreasing new
  pub kept : (j : ℕ) → Contains old j → Contains new j
  pub only : (j : ℕ) → Contains new j → Contains old j ⊎ ((first ≤ j) × (j < end))
  pub all : (j : ℕ) → first ≤ j → j < end → Contains new j ⊎ ((last : ℕ) × Contains old last × (j ≤ last))

-- The pages of a part that have bytes of a record that may have changed are put behind the old patches.
pub record AddsToldPages (changes : ChangedRecords) (bytes : List ℕ) (start : ℕ) (old new : List Patch) : Type 0 where
  pub told : List ℕ
  pub are : AreToldPages changes (pages_for (length bytes)) told
  pub added : new ≡ old ++ patches_at start bytes told

-- the pages that a keeping writes: those of the table with numbers that may have changed, and behind them those with records that may have changed
pub record AreWritten (changes : ChangedNumbers) (changed : ChangedRecords) (p : Parts) (pages : List Patch) : Type 0 where
  pub table : List ℕ
  pub table_told : AreToldPages (as_records changes) (pages_for (length (table_bytes p.table))) table
  pub records : List ℕ
  pub records_told : AreToldPages changed (pages_for (length p.records)) records
  pub are : pages ≡ patches_at 8192 (table_bytes p.table) table ++ patches_at (records_at p.table) p.records records
