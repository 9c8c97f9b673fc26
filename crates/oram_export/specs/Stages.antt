-- The reading of a tree between two nodes.
use Rattle.std.specs.Prelude.{◌≡◌, ℕ, ◌+◌, ◌<◌, ◌≤◌, List, length, map, sum_by, Option, Some, None, IfSome}
use Rattle.std.specs.List.{All, FoldsTo}
use Rattle.oram_records.specs.Messages.{rows_text}
use Rattle.oram_scan.specs.Laws.{Row, Takes}
use Rattle.oram_scan.specs.Scan.{Scan}
use Rattle.oram_scan.specs.declared.tree_scan.Finding.TheVariants.{Sound}
use Rattle.oram_export.specs.Findings.{IsCounted, count_of, finding_of}
use Rattle.oram_export.specs.declared.findings.LevelFindings.{LevelFindings}
use Rattle.oram_export.specs.declared.progress.TreeProgress.{TreeProgress}

-- what is known of the tree, what was found so far, and what the visitor has made of its target
pub record Stage (T : Type 0) : Type 0 where
  pub scan : Scan
  pub levels : List LevelFindings
  pub target : T

abbrev pub stage_of : {T : Type 0} → TreeProgress → T → Stage T
stage_of p target = record { scan = p.scan; levels = p.findings; target = target }

-- The tree has 24 levels below its root at most, and records of more than 64 bytes. The findings are about the nodes before the next one,
-- and there is one for each level.
pub record IsUnderWay (p : TreeProgress) : Type 0 where
  pub deep : p.scan.depth ≤ 24
  pub long : 64 < p.scan.record_len
  pub levels : length p.findings ≡ p.scan.depth + 1
  pub nodes : sum_by count_of p.findings ≡ p.scan.node

-- between `old` and `new` the reading took `count` nodes
pub record IsFurther (old new : TreeProgress) (count : ℕ) : Type 0 where
  pub depth : new.scan.depth ≡ old.scan.depth
  pub node : new.scan.node ≡ old.scan.node + count
  pub under_way : IsUnderWay new

-- a visitor is told of a row's record if it is sound
abbrev pub SeesRow : {T : Type 0} → (T → List ℕ → T → Type 0) → T → Row → T → Type 0
SeesRow sees s (Some (r, Sound)) t = sees s r t
SeesRow sees s row t = t ≡ s

-- the row of the next node
pub record TakesRow {T : Type 0} (sees : T → List ℕ → T → Type 0) (a : Stage T) (row : Row) (b : Stage T) : Type 0 where
  pub scan : Takes a.scan row b.scan
  pub levels : IsCounted a.levels a.scan.node (finding_of row) b.levels
  pub target : SeesRow sees a.target row b.target

-- the next node has no record
pub record PassesNode (p q : TreeProgress) : Type 0 where
  pub scan : Takes p.scan None q.scan
  pub levels : IsCounted p.findings p.scan.node None q.findings

-- a row's record, if it has one
abbrev pub record_in : Row → Option (List ℕ)
record_in None = None
record_in (Some (r, finding)) = Some r

-- the row's record has this length, if there is one
abbrev pub HasLength : ℕ → Row → Type 0
HasLength record_len row = IfSome (record_in row) (λ r. length r ≡ record_len)

-- the rows of the next nodes, which are spelled by this text
pub record TakesRows {T : Type 0} (sees : T → List ℕ → T → Type 0) (record_len : ℕ) (a : Stage T) (text : List ℕ) (b : Stage T) : Type 0 where
  pub rows : List Row
  pub spelled : text ≡ rows_text (map record_in rows)
  pub long : All (HasLength record_len) rows
  pub takes : FoldsTo (TakesRow sees) a rows b
