use Rattle.std.proofs.Common.{◌≡◌, ◌↔◌, take}
use Rattle.oram_hmac.proofs.tags.are_same.Given as goal

abbrev pub invariant-loop-i : goal.invariant-loop-i
invariant-loop-i l = (l.difference ≡ 0) ↔ (take l.i l.one ≡ take l.i l.other)
