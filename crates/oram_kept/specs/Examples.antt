-- Worked rows of the definitions.
use Rattle.std.specs.Prelude.{◌≡◌, [], ◌∷◌}
use Rattle.oram_kept.specs.Layout.{after_at, before_at, bytes_on, page_at, pages_for, records_at}
use Rattle.oram_kept.specs.Pages.{DifferInRecords, IsByteOf, IsPageOf}
use Rattle.oram_kept.specs.Text.{Parts, text_of}

-- a text of two bytes, a table of two numbers, a text of one byte, and records of two bytes
abbrev pub small : Parts
small = record { before = 7 ∷ 8 ∷ []; table = 258 ∷ 3 ∷ []; after = 9 ∷ []; records = 5 ∷ 6 ∷ [] }

-- the same without records
abbrev pub bare : Parts
bare = record { before = 7 ∷ 8 ∷ []; table = 258 ∷ 3 ∷ []; after = 9 ∷ []; records = [] }

pub record Rows : Type 0 where
  pub text : text_of small ≡ 7 ∷ 8 ∷ 0 ∷ 0 ∷ 1 ∷ 2 ∷ 0 ∷ 0 ∷ 0 ∷ 3 ∷ 9 ∷ 5 ∷ 6 ∷ []
  pub none : pages_for 0 ≡ 0
  pub one : pages_for 1 ≡ 1
  pub full : pages_for 1016 ≡ 1
  pub two : pages_for 1017 ≡ 2
  pub second : bytes_on (1 ∷ 2 ∷ []) 1 ≡ []
  pub first : bytes_on (1 ∷ 2 ∷ []) 0 ≡ 1 ∷ 2 ∷ []
  pub third_page : page_at 8192 2 ≡ 10240
  pub records : records_at small.table ≡ 9216
  pub before : before_at small ≡ 10240
  pub after : after_at small ≡ 10242
  -- records without bytes take no page
  pub no_records : before_at bare ≡ 9216
  -- With 2,000 bytes each, the record with the index 1 has the bytes from 2,000 to 3,999. They lie on the pages 1, 2 and 3.
  pub first_byte : IsByteOf 2000 1 2000
  pub last_byte : IsByteOf 2000 1 3999
  pub next_byte : IsByteOf 2000 1 4000 → ⊥
  pub before_first : IsPageOf 2000 1 0 → ⊥
  pub on_first : IsPageOf 2000 1 1
  pub on_last : IsPageOf 2000 1 3
  pub behind_last : IsPageOf 2000 1 4 → ⊥
  -- Of two records of two bytes each, the second is told. So its bytes may differ, and those of the first may not.
  pub second_differs : DifferInRecords 2 (1 ∷ []) (5 ∷ 6 ∷ 7 ∷ 8 ∷ []) (5 ∷ 6 ∷ 9 ∷ 8 ∷ [])
  pub first_differs : DifferInRecords 2 (1 ∷ []) (5 ∷ 6 ∷ 7 ∷ 8 ∷ []) (4 ∷ 6 ∷ 7 ∷ 8 ∷ []) → ⊥
