use Rattle.std.proofs.Common.{◌≡◌, ◌++◌, take}
use Rattle.std.specs.List.{flat_map}
use Rattle.oram_kept.specs.Text.{number_bytes}
use Rattle.oram_keeper.proofs.found_process.begin_with.Given as goal

abbrev pub invariant-loop-number : goal.invariant-loop-number
invariant-loop-number l = l.bytes ≡ flat_map number_bytes (take l.number-index l.table) ++ l.rest
