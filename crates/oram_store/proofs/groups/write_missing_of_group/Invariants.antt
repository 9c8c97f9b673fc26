use Rattle.std.proofs.Common.{◌≡◌}
use Rattle.std.specs.Prelude.{All}
use Rattle.oram_layout.specs.Trees.{Trees}
use Rattle.oram_store.specs.Groups.{IsOfTrees}
use Rattle.oram_store.specs.KeptRecords.{IsSoundFile, LeavesRecords}
use Rattle.oram_store.specs.RecordFile.{Runs}
use Rattle.oram_store.proofs.groups.write_missing_of_group.Given as goal

abbrev pub invariant-loop-change : goal.invariant-loop-change
invariant-loop-change g l = record {
  runs : Runs g.F.FilePair.model l.fn.file l.file;
  same : l.file.has_stopped ≡ l.fn.file.has_stopped;
  kept : (trees : Trees) → All (IsOfTrees trees) l.changes → IsSoundFile g.F.FilePair.model trees l.fn.file → g.F.FilePair.model.is_honest l.file.files
      → LeavesRecords g.F.FilePair.model trees l.fn.file l.file;
}
