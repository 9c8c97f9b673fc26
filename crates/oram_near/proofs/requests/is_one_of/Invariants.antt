use Rattle.std.proofs.Common.{take}
use Rattle.oram_rounds.specs.Batches.{texts}
use Rattle.oram_near.specs.NearCalls.{IsNoneOf}
use Rattle.oram_near.proofs.requests.is_one_of.Given as goal

abbrev pub invariant-loop-other : goal.invariant-loop-other
invariant-loop-other l = IsNoneOf l.message (take l.other-index (texts l.messages))
