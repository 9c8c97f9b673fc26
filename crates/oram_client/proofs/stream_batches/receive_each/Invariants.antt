use Rattle.std.proofs.Common.{take}
use Rattle.oram_rounds.specs.Batches.{texts}
use Rattle.oram_client.specs.AnswerLengths.{longest_answer}
use Rattle.oram_client.specs.StreamBatches.{AreAdded}
use Rattle.oram_client.proofs.stream_batches.receive_each.Given as goal

abbrev pub invariant-loop-body : goal.invariant-loop-body
invariant-loop-body g l = record {
  added : AreAdded (longest_answer l.lengths) (g.R.Read.remaining l.initial.reader) (g.R.Read.remaining l.reader) (take l.body-index (texts l.bodies)) (texts l.initial.answers.items) (texts l.answers.items);
}
