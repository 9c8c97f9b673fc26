use Rattle.std.proofs.Common.{◌≡◌, length}
use Rattle.oram_core.specs.Core.{scheme_of}
use Rattle.oram_export.specs.Export.{to_read}
use Rattle.oram_export.specs.Reading.{AreRead}
use Rattle.oram_export.proofs.check.check_disk.Given as goal

abbrev pub invariant-loop-tree : goal.invariant-loop-tree
invariant-loop-tree g l = record {
  count : length l.found.items ≡ l.tree;
  read : AreRead g.B.BatchLink.batches (to_read (scheme_of g.S.Sealer.cipher l.core) l.core.state) 0 l.fn.link l.found.items l.link;
}
