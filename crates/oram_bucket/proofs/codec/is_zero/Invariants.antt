use Rattle.std.proofs.Common.{◌≡◌, ◌==◌, take}
use Rattle.std.specs.List.{list_all}
use Rattle.oram_bucket.proofs.codec.is_zero.Given as goal

abbrev pub invariant-loop-byte : goal.invariant-loop-byte
invariant-loop-byte l = (l.mixed == 0) ≡ list_all (λ b. b == 0) (take l.byte-index l.bytes)
