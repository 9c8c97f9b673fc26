-- Worked rows: what the definitions say of small trees, beside what was written down by hand.
use Rattle.std.proofs.Common.{◌≡◌, [], ◌∷◌, Some, None, refl, lit≤, lit<}
use Rattle.oram_host.specs.Path.{node_on}
use Rattle.oram_redo.specs.Content.{Content, put}
use Rattle.oram_redo.specs.Log.{put_all}
use Rattle.oram_layout.specs.Changes.{level_patches, marks, unmarked_patch}
use Rattle.oram_pair.specs.Fronts.{front_bytes}
use Rattle.oram_layout.specs.Header.{letters}
use Rattle.oram_layout.specs.Limits.{cell_len, cells_len}
use Rattle.oram_layout.specs.Records.{records_in}
use Rattle.oram_layout.specs.Trees.{Trees, cell_at, end_of, next_of, sizes_of}
use Rattle.oram_layout.specs.declared.trees.Tree.{Tree}

-- a root and two leaves, with records of 3 bytes
abbrev narrow : Tree
narrow = record { shape = record { depth = 1; record_len = 3; deep = lit≤ tt; filled = lit< tt; fits = lit≤ tt }; base = 8192; within = lit≤ tt }

-- the same with records of 4 bytes, after it
abbrev wide : Tree
wide = record { shape = record { depth = 1; record_len = 4; deep = lit≤ tt; filled = lit< tt; fits = lit≤ tt }; base = 8204; within = lit≤ tt }

zeros : Content
zeros i = 0

-- a record of 3 bytes and its mark have 4, and one of 4 has a byte of padding
row_lengths : (cell_len 3 ∷ cell_len 4 ∷ cells_len (sizes_of narrow.shape) ∷ cells_len (sizes_of wide.shape) ∷ []) ≡ 4 ∷ 6 ∷ 12 ∷ 18 ∷ []
row_lengths = refl

row_cells : (cell_at narrow 0 ∷ cell_at narrow 2 ∷ end_of narrow ∷ cell_at wide 1 ∷ end_of wide ∷ []) ≡ 8192 ∷ 8200 ∷ 8204 ∷ 8210 ∷ 8222 ∷ []
row_cells = refl

-- the next tree's cells are after those of all trees, in whatever order they are
row_next : (next_of [] ∷ next_of (None ∷ Some narrow ∷ []) ∷ next_of (Some narrow ∷ None ∷ Some wide ∷ []) ∷ next_of (Some wide ∷ Some narrow ∷ []) ∷ []) ≡ 8192 ∷ 8204 ∷ 8222 ∷ 8222 ∷ []
row_next = refl

-- node 1 of tree 1 has a record
abbrev kept : Content
kept = put (1 ∷ 7 ∷ 8 ∷ 9 ∷ []) 8196 zeros

abbrev two : Trees
two = None ∷ Some narrow ∷ []

row_there : records_in two kept 1 1 ≡ Some (7 ∷ 8 ∷ 9 ∷ [])
row_there = refl

-- no mark, no such node, no such tree
row_none : (records_in two kept 1 0 ∷ records_in two kept 1 3 ∷ records_in two kept 0 1 ∷ records_in two kept 7 1 ∷ []) ≡ None ∷ None ∷ None ∷ None ∷ []
unfolding zeros
row_none = refl

-- a record without its mark isn't there, and the mark puts it
row_unmarked : records_in two (put_all (unmarked_patch narrow 2 (4 ∷ 5 ∷ 6 ∷ []) ∷ []) zeros) 1 2 ≡ None
unfolding zeros
row_unmarked = refl

row_marked : records_in two (put_all (marks (8200 ∷ [])) (put_all (unmarked_patch narrow 2 (4 ∷ 5 ∷ 6 ∷ []) ∷ []) zeros)) 1 2 ≡ Some (4 ∷ 5 ∷ 6 ∷ [])
row_marked = refl

-- the path of leaf 1 is the root and node 2
row_path : level_patches narrow 1 0 (1 ∷ 2 ∷ 3 ∷ 4 ∷ 5 ∷ 6 ∷ []) 0 2 ≡ (8192, 1 ∷ 1 ∷ 2 ∷ 3 ∷ []) ∷ (8200, 1 ∷ 4 ∷ 5 ∷ 6 ∷ []) ∷ []
unfolding node_on
row_path = refl

-- its last level alone
row_level : level_patches narrow 1 1 (4 ∷ 5 ∷ 6 ∷ []) 0 1 ≡ (8200, 1 ∷ 4 ∷ 5 ∷ 6 ∷ []) ∷ []
unfolding node_on
row_level = refl

row_front : front_bytes letters (record { 0 = 9 ∷ 8 ∷ [] }) ≡ 86 ∷ 73 ∷ 68 ∷ 76 ∷ 65 ∷ 81 ∷ 69 ∷ 66 ∷ 3 ∷ 0 ∷ 0 ∷ 0 ∷ 0 ∷ 0 ∷ 0 ∷ 0 ∷ 9 ∷ 8 ∷ []
row_front = refl
