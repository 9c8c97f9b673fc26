use Rattle.std.proofs.Common.{◌+◌, arith}
use Rattle.oram_redo.specs.Calls.{calls_of}
use Rattle.oram_redo.specs.declared.file_pair.FileKind.TheVariants.{Log}
use Rattle.oram_redo.proofs.Blanks.{blank_behind}
use Rattle.oram_redo.proofs.growth.write_zeros.Goals as goal

pub loop-at-preserved : goal.loop-at-preserved
loop-at-preserved c = blank_behind Log c.loop-at.at (c.loop-at.at + c.in_ok-n.n) (calls_of c.args.files.now) (omega arith) c.loop-at.invariant
