use Rattle.std.proofs.Common.{take}
use Rattle.std.specs.List.{AllByRecursion}
use Rattle.oram_rounds.specs.Batches.{texts}
use Rattle.oram_client.specs.Introduction.{Suits}
use Rattle.oram_client.proofs.introduction.check_answers.Given as goal

abbrev pub invariant-loop-answer : goal.invariant-loop-answer
invariant-loop-answer l = AllByRecursion (Suits l.wanted) (take l.answer-index (texts l.answers))
