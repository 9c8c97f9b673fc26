-- What a reading says about the tree that was stored.
use Rattle.std.specs.Prelude.{◌≡◌, ◌⊎◌, ℕ, List, Some, map}
use Rattle.std.specs.List.{All, range_with_len}
use Rattle.oram_hash.specs.Tree.{IsStored}
use Rattle.oram_link_laws.specs.Runs.{Exchange}
use Rattle.oram_records.specs.Messages.{rows_text}
use Rattle.oram_rounds.specs.Batches.{BatchOutcome}
use Rattle.oram_scan.specs.Laws.{AreTheTrees, HasCollision, Row}
use Rattle.oram_scan.specs.Scan.{node_count}
use Rattle.oram_export.specs.Findings.{IsLevelWhole}
use Rattle.oram_export.specs.Reading.{IsRead, answers_text}
use Rattle.oram_export.specs.declared.findings.LevelFindings.{LevelFindings}
use Rattle.oram_export.specs.declared.tree_reading.TreeToRead.{TreeToRead}

-- what the host says of a tree if it gives the stored record of each node
abbrev pub stored_text : (ℕ → List ℕ) → ℕ → List ℕ
stored_text records depth = rows_text (map (λ n. Some (records n)) (range_with_len 0 (node_count depth)))

-- Whatever the host answers, each record that is found sound is the stored one, or one of them collides with it. If the host gives the
-- stored records, each is found sound.
abbrev pub ReadingsAreRight : {B : Type 0} → (B → List (List ℕ) → BatchOutcome → List Exchange → B → Type 0) → Type 0
ReadingsAreRight {B} batches = (tree : TreeToRead) (l m : B) (rows : List Row) (levels : List LevelFindings) (records : ℕ → List ℕ)
    → IsStored tree.depth tree.record_len tree.root records → (read : IsRead batches tree l rows levels m)
    → (AreTheTrees records 0 rows ⊎ HasCollision records rows) × (answers_text read.askings ≡ stored_text records tree.depth → All IsLevelWhole levels)
