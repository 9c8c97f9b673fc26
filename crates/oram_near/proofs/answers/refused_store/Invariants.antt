use Rattle.std.proofs.Common.{map, take}
use Rattle.oram_rounds.specs.Batches.{texts}
use Rattle.oram_rounds.specs.Rounds.{AreDone}
use Rattle.oram_near.specs.NearCalls.{store_answers}
use Rattle.oram_near.specs.PathRequests.{request_of}
use Rattle.oram_near.proofs.answers.refused_store.Given as goal

abbrev pub invariant-loop-i : goal.invariant-loop-i
invariant-loop-i l = AreDone (store_answers (take l.i (map request_of l.requests)) (take l.i (texts l.answers)))
