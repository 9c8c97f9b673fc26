use Rattle.std.proofs.Common.{◌≡◌, ◌+◌, ◌-◌, ◌<◌, ◌^◌, ◌++◌, length}
use Rattle.oram_core.specs.Parts.{submissions_from}
use Rattle.oram_core.proofs.parts.construction.queue_of.Given as goal

abbrev pub invariant-loop-pending : goal.invariant-loop-pending
invariant-loop-pending l = record {
  few : l.ticket + length l.pending-iterator.rest.items < 2 ^ 64;
  whole : l.queue.items ++ submissions_from l.ticket l.pending-iterator.rest.items ≡ submissions_from (l.fn.accepted - length l.fn.waiting.items) l.fn.waiting.items;
}
