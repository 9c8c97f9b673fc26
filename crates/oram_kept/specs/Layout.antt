-- Where the parts of a text stand in a file.
use Rattle.std.specs.Prelude.{◌<◌, ℕ, ◌+◌, ◌*◌, ◌/◌, ◌^◌, List, [], ◌∷◌, ◌++◌, length, take, drop, All}
use Rattle.std.specs.Hash.DefaultHasher as sip
use Rattle.std.specs.Int.{w64, to_le_bytes}
use Rattle.std.specs.List.{flat_map}
use Rattle.oram_redo.specs.Content.{Content, Has}
use Rattle.oram_redo.specs.Log.{check_bytes}
use Rattle.oram_kept.specs.Text.{Parts, table_bytes}

-- Pages have 1,024 bytes each. A page has room for 1,016 bytes of a part, or 254 numbers, and for a checksum of them.
abbrev pub page_at : ℕ → ℕ → ℕ
page_at start i = start + i * 1024

-- the number of pages that n bytes take
abbrev pub pages_for : ℕ → ℕ
pages_for n = (n + 1015) / 1016

-- the bytes on the page with this index
abbrev pub bytes_on : List ℕ → ℕ → List ℕ
bytes_on bytes i = take 1016 (drop (i * 1016) bytes)

-- a page: its bytes, and their checksum
abbrev pub page_of : List ℕ → List ℕ
page_of bytes = bytes ++ check_bytes bytes

-- the content has each page of these bytes, and the first of them at this place
abbrev pub HasPages : List ℕ → ℕ → Content → Type 0
HasPages bytes start c = (i : ℕ) → i < pages_for (length bytes) → Has (page_of (bytes_on bytes i)) (page_at start i) c

-- The pages of the table begin at byte 8,192, and those of the records behind the last of them.
abbrev pub HasTable : List ℕ → Content → Type 0
HasTable table c = HasPages (table_bytes table) 8192 c

abbrev pub records_at : List ℕ → ℕ
records_at table = page_at 8192 (pages_for (4 * length table))

abbrev pub HasRecords : List ℕ → List ℕ → Content → Type 0
HasRecords table records c = HasPages records (records_at table) c

-- The text before the table stands behind the last page, and the text behind the table after it.
abbrev pub before_at : Parts → ℕ
before_at p = page_at (records_at p.table) (pages_for (length p.records))

abbrev pub after_at : Parts → ℕ
after_at p = before_at p + length p.before

-- SipHash-1-3 with keys of zeros, over the text before the table and then the one behind it
unfoldable pub check_of : List ℕ → List ℕ → ℕ
check_of before after = sip.finish (sip.write (sip.write sip.initial before) after)

unfoldable pub eight_bytes : ℕ → List ℕ
eight_bytes number = to_le_bytes w64 number

-- the lengths of the four parts, and the checksum of the two texts, in eight bytes each
abbrev pub lengths : Parts → List ℕ
lengths p = flat_map eight_bytes (length p.before ∷ length p.table ∷ length p.after ∷ length p.records ∷ check_of p.before p.after ∷ [])

-- the head, at byte 4,096: the lengths, and a checksum of them
abbrev pub head_of : Parts → List ℕ
head_of p = lengths p ++ check_bytes (lengths p)

-- The parts have room: each has fewer than 2^32 bytes or numbers, and each number has room in four bytes.
pub record HaveRoom (p : Parts) : Type 0 where
  pub before : length p.before < 2 ^ 32
  pub table : length p.table < 2 ^ 32
  pub after : length p.after < 2 ^ 32
  pub records : length p.records < 2 ^ 32
  pub numbers : All (λ n. n < 2 ^ 32) p.table

-- the content holds a text with these parts
pub record Holds (p : Parts) (c : Content) : Type 0 where
  pub room : HaveRoom p
  pub head : Has (head_of p) 4096 c
  pub table : HasTable p.table c
  pub records : HasRecords p.table p.records c
  pub before : Has p.before (before_at p) c
  pub after : Has p.after (after_at p) c
