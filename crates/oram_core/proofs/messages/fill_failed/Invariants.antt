use Rattle.std.proofs.Common.{◌≡◌, ◌≤◌, length, map, take, vec_len, vec_capacity}
use Rattle.oram_semantics.specs.Events.{failed_reply}
use Rattle.oram_core.proofs.messages.fill_failed.Given as goal

abbrev pub invariant-loop-at : goal.invariant-loop-at
invariant-loop-at l = record {
  filled : l.replies.items ≡ map failed_reply (take l.at l.queue.items);
  count : vec_len l.replies ≡ l.at;
  room : length l.queue.items ≤ vec_capacity l.replies;
}
