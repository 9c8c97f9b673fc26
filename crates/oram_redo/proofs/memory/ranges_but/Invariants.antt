use Rattle.std.proofs.Common.{ℕ, take}
use Rattle.oram_redo.specs.Memory.{IsOutside}
use Rattle.oram_redo.specs.declared.file_pair.FileKind.{FileKind}
use Rattle.oram_redo.proofs.memory.ranges_but.Given as goal

abbrev pub invariant-loop-range : goal.invariant-loop-range
invariant-loop-range l = record {
  synced : (i : ℕ) → IsOutside l.kept.items l.file i;
  fewer : (other : FileKind) (i : ℕ) → IsOutside (take l.range-index l.ranges) other i → IsOutside l.kept.items other i;
}
