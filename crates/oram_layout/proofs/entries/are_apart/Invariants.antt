use Rattle.oram_layout.proofs.Apart.{AreApartBelow}
use Rattle.oram_layout.proofs.entries.are_apart.Given as goal

abbrev pub invariant-loop-number : goal.invariant-loop-number
invariant-loop-number l = AreApartBelow l.trees l.number
