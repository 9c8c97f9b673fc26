use Rattle.oram_layout.proofs.Slots.{HasSlots}
use Rattle.oram_layout.proofs.entries.listed.Given as goal

abbrev pub invariant-loop-number : goal.invariant-loop-number
invariant-loop-number l = HasSlots l.bytes l.trees.items l.number
