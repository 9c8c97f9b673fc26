use Rattle.std.proofs.Common.{◌≡◌, take}
use Rattle.oram_kept.specs.Text.{table_bytes}
use Rattle.oram_kept.proofs.pages.copy_numbers.Given as goal

abbrev pub invariant-loop-number : goal.invariant-loop-number
invariant-loop-number l = l.bytes.items ≡ table_bytes (take l.number-index l.numbers)
