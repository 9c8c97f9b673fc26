use Rattle.std.proofs.Common.{◌≡◌, false, All, take}
use Rattle.oram_nbd.specs.Accesses.{is_part, range_of}
use Rattle.oram_nbd.specs.Operations.{IsWhole}
use Rattle.oram_nbd.proofs.lists.whole_front.Given as goal

abbrev pub invariant-loop-number : goal.invariant-loop-number
invariant-loop-number l = record {
  whole : All (IsWhole l.block) (take l.number l.operations);
  no_parts : All (λ op. is_part l.block (range_of op) ≡ false) (take l.number l.operations);
}
