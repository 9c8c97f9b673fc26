-- A text with a table of numbers and with records in it.
use Rattle.std.specs.Prelude.{ℕ, List, ◌++◌}
use Rattle.std.specs.Int.{w32, to_be_bytes}
use Rattle.std.specs.List.{flat_map}

-- the text before the table, the numbers of the table, the text behind it, and the bytes of the records
pub record Parts : Type 0 where
  pub before : List ℕ
  pub table : List ℕ
  pub after : List ℕ
  pub records : List ℕ

-- a number of the table in four bytes, the high byte first
unfoldable pub number_bytes : ℕ → List ℕ
number_bytes number = to_be_bytes w32 number

abbrev pub table_bytes : List ℕ → List ℕ
table_bytes table = flat_map number_bytes table

-- the whole text
abbrev pub text_of : Parts → List ℕ
text_of p = p.before ++ (table_bytes p.table ++ (p.after ++ p.records))
