use Rattle.std.proofs.Common.{◌≡◌, ◌++◌, length}
use Rattle.oram_volume.specs.RangeCommands.{rest_of}
use Rattle.oram_volume.proofs.commands.next_round.Given as goal

abbrev pub invariant-loop-number : goal.invariant-loop-number
invariant-loop-number l = record {
  many : length l.commands.items ≡ l._number;
  so_far : rest_of l.block l.operations l.fn.cursor.operation l.fn.cursor.block ≡ l.commands.items ++ rest_of l.block l.operations l.cursor.operation l.cursor.block;
}
