use Rattle.std.proofs.Common.{◌-◌}
use Rattle.oram_redo.specs.Blank.{IsBlankFrom}
use Rattle.oram_redo.specs.Calls.{calls_of}
use Rattle.oram_redo.specs.declared.file_pair.FileKind.TheVariants.{Log}
use Rattle.oram_redo.proofs.growth.write_zeros.Given as goal

abbrev pub invariant-loop-at : goal.invariant-loop-at
invariant-loop-at l = IsBlankFrom Log l.at (calls_of l.files)

abbrev pub decreases-loop-at : goal.decreases-loop-at
decreases-loop-at l = l.end - l.at
