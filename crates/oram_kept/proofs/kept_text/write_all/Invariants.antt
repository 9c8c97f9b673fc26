use Rattle.std.proofs.Common.{take}
use Rattle.oram_redo.specs.Batch.{patches_of}
use Rattle.oram_redo.specs.Content.{Agrees}
use Rattle.oram_redo.specs.FilePair.{ComesAfter}
use Rattle.oram_redo.specs.Log.{put_all}
use Rattle.oram_redo.specs.declared.file_pair.FileKind.TheVariants.{Log, Records}
use Rattle.oram_kept.proofs.kept_text.write_all.Given as goal

abbrev pub invariant-loop-patch : goal.invariant-loop-patch
invariant-loop-patch g l =
    Agrees (g.F.FilePair.model.seen l.files Records) (put_all (patches_of (take l.patch-index l.batch)) (g.F.FilePair.model.seen l.fn.files Records))
    × Agrees (g.F.FilePair.model.seen l.files Log) (g.F.FilePair.model.seen l.fn.files Log)
    × ComesAfter g.F.FilePair.model l.fn.files l.files
