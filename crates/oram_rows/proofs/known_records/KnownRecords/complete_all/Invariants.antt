use Rattle.std.proofs.Common.{◌≡◌, ◌≤◌, ◌++◌, length, take, vec_len}
use Rattle.oram_rounds.specs.Batches.{texts}
use Rattle.oram_near.specs.EmptyRecords.{made_with}
use Rattle.oram_rows.specs.Rows.{AreCompleted, client_of}
use Rattle.oram_rows.proofs.known_records.KnownRecords.complete_all.Given as goal

abbrev pub invariant-loop-answer : goal.invariant-loop-answer
invariant-loop-answer g l = record {
  count : vec_len l.given ≡ length l.yielded;
  completed : length l.yielded ≤ length (texts l.first ++ texts l.last)
      → AreCompleted (client_of (made_with g.E.EmptyRecords.record_at) l.self) (take (length l.yielded) (texts l.first ++ texts l.last)) (texts l.yielded) (texts l.given.items);
}
