use Rattle.std.proofs.Common.{◌≡◌, ◌-◌, ◌≤◌, length, map, take}
use Rattle.oram_nbd.specs.Beside.{GoesOn, HasArrays}
use Rattle.oram_nbd.specs.Calls.{SavesAll, Stays}
use Rattle.oram_nbd.specs.Operations.{TouchSomeByte, read_len}
use Rattle.oram_nbd.proofs.ListSteps.{Carried}
use Rattle.oram_nbd.proofs.lists.carry_out_all.Given as goal
use Rattle.oram_nbd.specs.Accesses.{AsksFirst}

abbrev pub invariant-loop-alloc : goal.invariant-loop-alloc
invariant-loop-alloc g l = record {
  few : length l.given.items ≤ length l.operations;
  lens : map length l.given.items ≡ map read_len (take (length l.given.items) l.operations);
  so_far : GoesOn g.D.BlockDevice.had g.D.BlockDevice.hears (HasArrays g.D.BlockDevice.holds g.D.BlockDevice.kept) l.fn.disk
      (λ may_lie old new. Carried l.operations old.held (length l.given.items) l.given.items new.held × SavesAll (TouchSomeByte (take (length l.given.items) l.operations)) old new) l.disk;
  asked : AsksFirst g.D.BlockDevice.asked (g.D.BlockDevice.block_len l.fn.disk) l.operations (length l.given.items) l.fn.disk l.disk;
  stays : Stays g.D.BlockDevice.block_len g.D.BlockDevice.size g.D.BlockDevice.failed l.fn.disk l.disk;
}

abbrev pub decreases-loop-alloc : goal.decreases-loop-alloc
decreases-loop-alloc g l = length l.operations - length l.given.items
