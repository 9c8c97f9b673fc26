use Rattle.oram_layout.proofs.Apart.{IsApartBelow}
use Rattle.oram_layout.proofs.entries.is_apart.Given as goal

abbrev pub invariant-loop-other : goal.invariant-loop-other
invariant-loop-other l = IsApartBelow l.tree l.others l.other-index
