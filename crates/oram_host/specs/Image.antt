-- The image of a host: a file that holds its trees. All numbers are big-endian.
use Rattle.std.specs.Prelude.{ℕ, List, [], ◌∷◌, ◌++◌, length, codes}
use Rattle.std.specs.Int.{w32, to_be_bytes}
use Rattle.std.specs.List.{flat_map}
use Rattle.oram_host.specs.Host.{Host, Kept}

-- a node and its record
abbrev pub record_text : ℕ × List ℕ → List ℕ
record_text e = to_be_bytes w32 e.0 ++ e.1

-- the number of the entries, and the entries
abbrev pub entries_text : {X : Type 0} → (ℕ × X → List ℕ) → List (ℕ × X) → List ℕ
entries_text text_of entries = to_be_bytes w32 (length entries) ++ flat_map text_of entries

-- the depth, the length of the records, and the records
abbrev pub kept_text : Kept → List ℕ
kept_text kept = (kept.depth ∷ []) ++ to_be_bytes w32 kept.record_len ++ entries_text record_text kept.records

-- a tree's number and what is kept of it
abbrev pub tree_text : ℕ × Kept → List ℕ
tree_text e = e.0 ∷ kept_text e.1

-- the eight letters, the version 1, and the trees
abbrev pub image : Host → List ℕ
image host = codes "ORAMHOST" ++ to_be_bytes w32 1 ++ entries_text tree_text host
