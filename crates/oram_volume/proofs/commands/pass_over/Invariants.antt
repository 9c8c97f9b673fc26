use Rattle.std.proofs.Common.{◌≡◌, ◌-◌, length}
use Rattle.oram_volume.specs.RangeCommands.{rest_of}
use Rattle.oram_volume.proofs.commands.pass_over.Given as goal

abbrev pub invariant-loop-cursor : goal.invariant-loop-cursor
invariant-loop-cursor l = rest_of l.block l.operations l.cursor.operation l.cursor.block ≡ rest_of l.block l.operations l.fn.cursor.operation l.fn.cursor.block

abbrev pub decreases-loop-cursor : goal.decreases-loop-cursor
decreases-loop-cursor l = length l.operations - l.cursor.operation
