use Rattle.std.proofs.Common.{List, ◌-◌}
use Rattle.oram_redo.specs.FilePair.{ComesAfter, WritesNothing}
use Rattle.oram_redo.specs.Log.{Patch}
use Rattle.oram_redo.specs.declared.file_pair.FileKind.TheVariants.{Log}
use Rattle.oram_redo.proofs.LogReads.{Opens}
use Rattle.oram_redo.proofs.recovery.end_of_log.Given as goal

abbrev pub invariant-loop-found : goal.invariant-loop-found
invariant-loop-found g l = record {
  nothing_written : WritesNothing g.F.FilePair.model l.initial.files l.files;
  so_far : g.F.FilePair.model.is_honest l.files → (done : List Patch) × Opens l.bounds done (g.F.FilePair.model.seen l.initial.files Log) l.at;
  after : ComesAfter g.F.FilePair.model l.initial.files l.files;
}

abbrev pub decreases-loop-found : goal.decreases-loop-found
decreases-loop-found g l = l.bounds.log_end - l.at
