-- Worked rows of the answers to requests for the records of nodes in a row, and to messages about some levels of a path.
use Rattle.std.proofs.Common.{◌≡◌, ◌==◌, ◌+◌, ◌<◌, ℕ, zero, suc, if◌then◌else◌, [], ◌∷◌, Some, None, true, false, refl, arith, lit≤, lit<}
use Rattle.oram_host.specs.Path.{node_on, record_at}
use Rattle.oram_host.specs.declared.refusals.HostRefusal.TheVariants.{NoShape, BadLeaf, BadNode, BadLength}
use Rattle.oram_layout.specs.Records.{Records}
use Rattle.oram_layout.specs.Trees.{Trees}
use Rattle.oram_layout.specs.declared.trees.Tree.{Tree}
use Rattle.oram_levels.specs.Messages.{FetchLevels, StoreLevels}
use Rattle.oram_records.specs.Messages.{rows_text}
use Rattle.oram_store.specs.LevelsAnswers.{GivesLevels, levels_refusal}
use Rattle.oram_store.specs.RecordsAnswers.{fits_answer, records_refusal}
use Rattle.oram_store.specs.Rows.{rows_in, rows_of}
use Rattle.oram_wire.specs.HostMessages.{payload_answer}

-- of two cells of 4 bytes each, for records of 2 bytes, the first has a record and the second has bytes that don't count
two_cells : rows_in 2 4 2 (1 ∷ 17 ∷ 18 ∷ 0 ∷ 0 ∷ 9 ∷ 9 ∷ 0 ∷ []) ≡ Some (17 ∷ 18 ∷ []) ∷ None ∷ []
two_cells = refl

-- of tree 1, node 3 alone has a record
abbrev kept : Records
kept tree node = if tree == 1 then (if node == 3 then Some (17 ∷ 18 ∷ []) else None) else None

three_nodes : payload_answer (rows_text (rows_of kept 1 2 3)) ≡ 128 ∷ 0 ∷ 1 ∷ 17 ∷ 18 ∷ 0 ∷ []
three_nodes = refl

-- tree 1 has a root and two leaves, with records of 2 bytes
abbrev narrow : Tree
narrow = record { shape = record { depth = 1; record_len = 2; deep = lit≤ tt; filled = lit< tt; fits = lit≤ tt }; base = 8192; within = lit≤ tt }

abbrev trees : Trees
trees = None ∷ Some narrow ∷ []

granted : records_refusal trees (record { tree = 1; first = 0; count = 3 }) ≡ None
granted = refl

-- no such tree; a node too many; no node, of a tree that has some
refused : (records_refusal trees (record { tree = 0; first = 0; count = 1 }) ∷ records_refusal trees (record { tree = 1; first = 1; count = 3 }) ∷ records_refusal trees (record { tree = 1; first = 2; count = 0 }) ∷ []) ≡ Some NoShape ∷ Some BadNode ∷ Some BadLength ∷ []
refused = refl

-- an answer has room for 349,525 records of 2 bytes
most : (fits_answer (record { depth = 24; record_len = 2 }) 349525 ∷ fits_answer (record { depth = 24; record_len = 2 }) 349526 ∷ []) ≡ true ∷ false ∷ []
most = refl

-- of tree 1, the root alone has a record
abbrev top : Records
top tree node = if tree == 1 then (if node == 0 then Some (17 ∷ 18 ∷ []) else None) else None

root_alone : (i : ℕ) → i < 1 → top 1 (node_on 1 0 (0 + i)) ≡ Some (record_at 2 (17 ∷ 18 ∷ []) i)
unfolding node_on
root_alone zero below = refl
root_alone (suc i) below = absurd (omega arith)

-- a FETCH of both levels of leaf 0 gives the root's record, since the leaf has none
one_level : GivesLevels top 1 (record { depth = 1; record_len = 2 }) 0 0 1 (1 ∷ 17 ∷ 18 ∷ [])
unfolding node_on
one_level = record { count = 1; bytes = 17 ∷ 18 ∷ []; is = refl; within = omega arith; are = record { whole = refl; each = root_alone }; ends = λ more. refl }

levels_granted : (levels_refusal trees (FetchLevels 1 0 1 0) ∷ levels_refusal trees (StoreLevels 1 1 1 (17 ∷ 18 ∷ [])) ∷ []) ≡ None ∷ None ∷ []
levels_granted = refl

-- no such tree; no such leaf; a level too many; the first level behind the last one
fetches_refused : (levels_refusal trees (FetchLevels 0 0 0 0) ∷ levels_refusal trees (FetchLevels 1 0 1 2) ∷ levels_refusal trees (FetchLevels 1 0 2 0) ∷ levels_refusal trees (FetchLevels 1 1 0 0) ∷ []) ≡ Some NoShape ∷ Some BadLeaf ∷ Some BadNode ∷ Some BadLength ∷ []
fetches_refused = refl

-- a level too many; a record too few
stores_refused : (levels_refusal trees (StoreLevels 1 2 0 []) ∷ levels_refusal trees (StoreLevels 1 0 0 (17 ∷ 18 ∷ [])) ∷ []) ≡ Some BadNode ∷ Some BadLength ∷ []
stores_refused = refl
