use Rattle.std.proofs.Common.{◌≡◌, length}
use Rattle.oram_redo.specs.Content.{bytes_at}
use Rattle.oram_redo.specs.Memory.{byte_of}
use Rattle.oram_redo.proofs.memory.bytes_from.Given as goal

abbrev pub invariant-loop-i : goal.invariant-loop-i
invariant-loop-i l = record { bytes : l.bytes.items ≡ bytes_at l.i l.at (byte_of l.file); len : length l.bytes.items ≡ l.i }
