use Rattle.std.proofs.Common.{◌≡◌, ℕ, ◌+◌, ◌*◌, ◌<◌, ◌++◌, List, Some, false, length}
use Rattle.oram_host.specs.Path.{node_on, record_at}
use Rattle.oram_redo.specs.declared.file_pair.FileKind.TheVariants.{Records}
use Rattle.oram_store.specs.Batches.{records_of_tree}
use Rattle.oram_store.specs.RecordFile.{ReadsOnly, Runs}
use Rattle.oram_store.proofs.cells.read_levels.Given as goal

abbrev pub invariant-loop-count : goal.invariant-loop-count
invariant-loop-count g l = record {
  rest : List ℕ;
  grown : l.bytes.items ≡ l.fn.bytes.items ++ rest;
  whole : length rest ≡ l.count * l.tree.shape.record_len;
  reads : ReadsOnly g.F.FilePair.model l.fn.file l.file;
  runs : Runs g.F.FilePair.model l.fn.file l.file;
  same : l.file.has_stopped ≡ l.fn.file.has_stopped;
  running : 0 < l.count → l.file.has_stopped ≡ false;
  each : g.F.FilePair.model.is_honest l.file.files → (k : ℕ) → k < l.count
      → records_of_tree l.tree (g.F.FilePair.model.seen l.fn.file.files Records) 0 (node_on l.tree.shape.depth l.leaf (l.first + k)) ≡ Some (record_at l.tree.shape.record_len rest k);
}
