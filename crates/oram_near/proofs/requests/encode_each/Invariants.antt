use Rattle.std.proofs.Common.{◌≡◌, take, map}
use Rattle.oram_levels.specs.Messages.{levels_body}
use Rattle.oram_rounds.specs.Batches.{texts}
use Rattle.oram_near.specs.PathRequests.{far_of, request_of}
use Rattle.oram_near.proofs.requests.encode_each.Given as goal

abbrev pub invariant-loop-request : goal.invariant-loop-request
invariant-loop-request l =
    texts l.messages.items ≡ map levels_body (map (far_of l.device l.levels l.record_len) (take l.request-index (map request_of l.requests)))
