-- The shape of a tree, and the length of its cells. `is_shape` in oram_host says which shapes a tree may have.
use Rattle.std.specs.Prelude.{ℕ, ◌+◌, ◌*◌, ◌-◌, ◌^◌, ◌/◌}

pub record TreeShape : Type 0 where
  pub depth : ℕ
  pub record_len : ℕ

abbrev pub nodes_of : TreeShape → ℕ
nodes_of s = 2 ^ (s.depth + 1) - 1

-- how many levels a path has from level `first` on
abbrev pub levels_from : TreeShape → ℕ → ℕ
levels_from s first = s.depth + 1 - first

-- A node's cell has its mark, a byte that is 1 if there is a record, and then the record. Its length is even, and so is
-- its place: so the mark and the first byte of the record lie in one block of the disk.
abbrev pub cell_len : ℕ → ℕ
cell_len record_len = 2 * ((record_len + 2) / 2)

-- the length of all of a tree's cells
abbrev pub cells_len : TreeShape → ℕ
cells_len s = nodes_of s * cell_len s.record_len
