use Rattle.std.proofs.Common.{◌≡◌, take}
use Rattle.oram_rounds.specs.Batches.{texts}
use Rattle.oram_rounds.specs.Rounds.{AreDone}
use Rattle.oram_rounds.proofs.answers.first_refusal.Given as goal

abbrev pub invariant-loop-i : goal.invariant-loop-i
invariant-loop-i l = record {
  same : l.answers ≡ l.initial.answers;
  done : AreDone (take l.i (texts l.answers.items));
}
