use Rattle.std.proofs.Common.{◌≡◌, ◌++◌, length, map, take}
use Rattle.std.specs.List.{flat_map}
use Rattle.oram_nbd.specs.Operations.{read_len}
use Rattle.oram_volume.proofs.disk.cut_up.Given as goal

abbrev pub invariant-loop-operation : goal.invariant-loop-operation
invariant-loop-operation l = record {
  lens : map length l.given.items ≡ map read_len (take l.operation-index l.operations);
  so_far : flat_map (λ bytes. bytes) l.given.items ++ l.rest ≡ l.found;
}
