use Rattle.std.proofs.Common.{◌≡◌, ◌-◌, ◌^◌, min, sum_by, take}
use Rattle.oram_nbd.specs.Operations.{read_len}
use Rattle.oram_volume.proofs.disk.read_in_all.Given as goal

abbrev pub invariant-loop-operation : goal.invariant-loop-operation
invariant-loop-operation l = l.len ≡ min (sum_by read_len (take l.operation-index l.operations)) (2 ^ 64 - 1)
