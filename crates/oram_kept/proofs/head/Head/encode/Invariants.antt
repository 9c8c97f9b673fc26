use Rattle.std.proofs.Common.{◌≡◌, take}
use Rattle.std.specs.List.{flat_map}
use Rattle.oram_kept.specs.Layout.{eight_bytes}
use Rattle.oram_kept.proofs.head.Head.encode.Given as goal

abbrev pub invariant-loop-number : goal.invariant-loop-number
invariant-loop-number l = l.head.items ≡ flat_map eight_bytes (take l.number-index l.number-items)
