use Rattle.std.proofs.Common.{take}
use Rattle.oram_redo.specs.Batch.{patches_of}
use Rattle.oram_redo.specs.Content.{Agrees}
use Rattle.oram_redo.specs.FilePair.{Follows, ComesAfter, LeavesOnly}
use Rattle.oram_redo.specs.Log.{Smeared, put_all}
use Rattle.oram_redo.specs.Steps.{Smears}
use Rattle.oram_redo.specs.declared.file_pair.FileKind.TheVariants.{Records, Log}
use Rattle.oram_redo.proofs.steps.put_in_place.Given as goal

abbrev pub invariant-loop-patch : goal.invariant-loop-patch
invariant-loop-patch g l = record {
  records : Agrees (g.F.FilePair.model.seen l.files Records) (put_all (patches_of (take l.patch-index l.batch)) (g.F.FilePair.model.seen l.initial.files Records));
  log : Agrees (g.F.FilePair.model.seen l.files Log) (g.F.FilePair.model.seen l.initial.files Log);
  crash : Follows (Smeared (patches_of l.batch)) (g.F.FilePair.model.may_leave l.initial.files) (g.F.FilePair.model.may_leave l.files);
  moments : LeavesOnly g.F.FilePair.model l.initial.files l.files (Smears (patches_of l.batch) (g.F.FilePair.model.may_leave l.initial.files));
  after : ComesAfter g.F.FilePair.model l.initial.files l.files;
}
