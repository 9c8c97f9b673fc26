use Rattle.std.proofs.Common.{◌≡◌, ℕ, Some}
use Rattle.oram_layout.specs.Trees.{Trees, tree_at}
use Rattle.oram_store.specs.KeptRecords.{IsSoundFile, LeavesRecords}
use Rattle.oram_store.specs.RecordFile.{Runs}
use Rattle.oram_store.proofs.cells.write_missing.Given as goal

abbrev pub invariant-loop-index : goal.invariant-loop-index
invariant-loop-index g l = record {
  runs : Runs g.F.FilePair.model l.fn.file l.file;
  same : l.file.has_stopped ≡ l.fn.file.has_stopped;
  kept : (trees : Trees) (number : ℕ) → tree_at trees number ≡ Some l.tree → IsSoundFile g.F.FilePair.model trees l.fn.file → g.F.FilePair.model.is_honest l.file.files
      → LeavesRecords g.F.FilePair.model trees l.fn.file l.file;
}
