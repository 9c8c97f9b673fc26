use Rattle.std.proofs.Common.{take}
use Rattle.oram_rounds.specs.Batches.{texts}
use Rattle.oram_near.specs.NearCalls.{AreAgain}
use Rattle.oram_near.proofs.requests.are_among.Given as goal

abbrev pub invariant-loop-store : goal.invariant-loop-store
invariant-loop-store l = AreAgain (texts l.messages) (take l.store-index (texts l.stores))
