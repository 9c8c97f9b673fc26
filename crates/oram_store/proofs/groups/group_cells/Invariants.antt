use Rattle.std.proofs.Common.{take}
use Rattle.oram_store.specs.Groups.{HoldGroupCells}
use Rattle.oram_store.proofs.groups.group_cells.Given as goal

abbrev pub invariant-loop-change : goal.invariant-loop-change
invariant-loop-change l = HoldGroupCells l.cells.items (take l.change-index l.changes)
