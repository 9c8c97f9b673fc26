use Rattle.std.proofs.Common.{◌≡◌, length}
use Rattle.std.specs.List.{AllByRecursion}
use Rattle.oram_rounds.specs.Batches.{texts}
use Rattle.oram_near.specs.NearCalls.{store_answer}
use Rattle.oram_near.specs.NearStreams.{bytes_of}
use Rattle.oram_near.proofs.hearing.store_answers.Given as goal

abbrev pub invariant-loop : goal.invariant-loop
invariant-loop l = record {
  count : length l.answers.items ≡ l.counter;
  same : AllByRecursion (λ answer. answer ≡ store_answer (bytes_of l.refusal)) (texts l.answers.items);
}
