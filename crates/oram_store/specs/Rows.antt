-- The rows of nodes in a row.
use Rattle.std.specs.Prelude.{ℕ, zero, suc, ◌==◌, List, [], ◌∷◌, take, drop, if◌then◌else◌, Option, Some, None}
use Rattle.oram_layout.specs.Records.{Records}

-- the record of each node, if it has one: n nodes of a tree, from `first` on
abbrev pub rows_of : Records → ℕ → ℕ → ℕ → List (Option (List ℕ))
rows_of records tree first zero = []
rows_of records tree first (suc n) = records tree first ∷ rows_of records tree (suc first) n

-- the record in the bytes of a cell: it comes after the mark, and is there if the mark is 1
abbrev pub row_in : ℕ → List ℕ → Option (List ℕ)
row_in record_len [] = None
row_in record_len (mark ∷ bytes) = if mark == 1 then Some (take record_len bytes) else None

-- the records in the bytes of n cells, each of `width` bytes
abbrev pub rows_in : ℕ → ℕ → ℕ → List ℕ → List (Option (List ℕ))
rows_in record_len width zero cells = []
rows_in record_len width (suc n) cells = row_in record_len (take width cells) ∷ rows_in record_len width n (drop width cells)
