use Rattle.std.proofs.Common.{◌≡◌, map}
use Rattle.std.specs.List.{range_with_len}
use Rattle.oram_rounds.specs.Batches.{texts}
use Rattle.oram_export.specs.Requests.{request_at}
use Rattle.oram_export.proofs.batches.Requests.batch.Given as goal

abbrev pub invariant-loop-at : goal.invariant-loop-at
invariant-loop-at l = texts l.bodies.items ≡ map (request_at l.self) (range_with_len l.first l.at)
