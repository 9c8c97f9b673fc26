use Rattle.std.proofs.Common.{◌≡◌, map, take}
use Rattle.oram_core.specs.Parts.{pending_of}
use Rattle.oram_core.proofs.parts.pendings.Given as goal

abbrev pub invariant-loop-at : goal.invariant-loop-at
invariant-loop-at l = record { filled : l.waiting.items ≡ map pending_of (take l.at l.queue.items) }
