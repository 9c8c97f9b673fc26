use Rattle.std.proofs.Common.{take}
use Rattle.oram_rounds.specs.Batches.{texts}
use Rattle.oram_rounds.specs.Rounds.{AreDone}
use Rattle.oram_rounds.proofs.answers.are_done.Given as goal

abbrev pub invariant-loop-answer : goal.invariant-loop-answer
invariant-loop-answer l = AreDone (take l.answer-index (texts l.answers))
