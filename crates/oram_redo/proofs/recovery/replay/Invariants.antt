use Rattle.std.proofs.Common.{List, ◌-◌}
use Rattle.oram_redo.specs.Content.{Agrees}
use Rattle.oram_redo.specs.FilePair.{Follows, ComesAfter, LeavesOnly}
use Rattle.oram_redo.specs.Log.{Patch, IsLog, Smeared}
use Rattle.oram_redo.specs.Steps.{Smears}
use Rattle.oram_redo.specs.declared.file_pair.FileKind.TheVariants.{Log}
use Rattle.oram_redo.proofs.LogReads.{Replayed}
use Rattle.oram_redo.proofs.recovery.replay.Given as goal

abbrev pub invariant-loop-found : goal.invariant-loop-found
invariant-loop-found g l = record {
  log : Agrees (g.F.FilePair.model.seen l.files Log) (g.F.FilePair.model.seen l.initial.files Log);
  so_far : g.F.FilePair.model.is_honest l.files → Replayed l.bounds (g.F.FilePair.model.seen l.initial.files) (g.F.FilePair.model.seen l.files) l.at;
  crash : g.F.FilePair.model.is_honest l.files → (patches : List Patch) → IsLog l.bounds patches (g.F.FilePair.model.seen l.initial.files Log) → Follows (Smeared patches) (g.F.FilePair.model.may_leave l.initial.files) (g.F.FilePair.model.may_leave l.files);
  moments : g.F.FilePair.model.is_honest l.files → (patches : List Patch) → IsLog l.bounds patches (g.F.FilePair.model.seen l.initial.files Log)
      → LeavesOnly g.F.FilePair.model l.initial.files l.files (Smears patches (g.F.FilePair.model.may_leave l.initial.files));
  after : ComesAfter g.F.FilePair.model l.initial.files l.files;
}

abbrev pub decreases-loop-found : goal.decreases-loop-found
decreases-loop-found g l = l.bounds.log_end - l.at
