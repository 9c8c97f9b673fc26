-- What is read of a text that is kept.
use Rattle.std.specs.Prelude.{◌≡◌, ◌<◌, ◌*◌, ◌^◌, ℕ, List, [], ◌∷◌, ◌++◌, length}
use Rattle.std.specs.List.{flat_map}
use Rattle.oram_redo.specs.Content.{Content, Has}
use Rattle.oram_redo.specs.Log.{check_bytes}
use Rattle.oram_kept.specs.Layout.{HasPages, check_of, eight_bytes, page_at, pages_for}
use Rattle.oram_kept.specs.Text.{Parts}
use Rattle.oram_kept.specs.declared.head.Head.{Head}
use Rattle.oram_kept.specs.declared.reading.Around.{Around}

-- the bytes of a head
abbrev pub said_bytes : Head → List ℕ
said_bytes head = flat_map eight_bytes (head.before ∷ head.table ∷ head.after ∷ head.records ∷ head.check ∷ [])

abbrev pub head_bytes : Head → List ℕ
head_bytes head = said_bytes head ++ check_bytes (said_bytes head)

-- The head says this of a text.
pub record Says (head : Head) (p : Parts) : Type 0 where
  pub before : length p.before ≡ head.before
  pub table : length p.table ≡ head.table
  pub after : length p.after ≡ head.after
  pub records : length p.records ≡ head.records
  pub check : eight_bytes (check_of p.before p.after) ≡ eight_bytes head.check

-- the lengths have room
pub record SaysRoom (head : Head) : Type 0 where
  pub before : head.before < 2 ^ 32
  pub table : head.table < 2 ^ 32
  pub after : head.after < 2 ^ 32
  pub records : head.records < 2 ^ 32

-- where the first page of the records stands, and behind their last page the two texts
abbrev pub records_place : Head → ℕ
records_place head = page_at 8192 (pages_for (4 * head.table))

abbrev pub texts_place : Head → ℕ
texts_place head = page_at (records_place head) (pages_for head.records)

-- The content has what stands behind a head: the pages of the table, those of the records, and the two texts.
pub record HasBody (head : Head) (table_pages record_pages texts : List ℕ) (c : Content) : Type 0 where
  pub table_at : Has table_pages 8192 c
  pub records_at : Has record_pages (records_place head) c
  pub texts_at : Has texts (texts_place head) c

-- the text of a table, of records, and of what stands around the table
abbrev pub parts_around : List ℕ → List ℕ → Around → Parts
parts_around table records around = record { before = around.before.items; table = table; after = around.after.items; records = records }

-- a content doesn't have pages with this number of bytes at this place
abbrev pub HasNoPages : ℕ → ℕ → Content → Type 0
HasNoPages len start c = (bytes : List ℕ) → length bytes ≡ len → HasPages bytes start c → ⊥
