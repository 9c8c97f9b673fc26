use Rattle.std.proofs.Common.{◌≡◌, drop, map}
use Rattle.oram_near.specs.NearCalls.{goes_on, is_in_order}
use Rattle.oram_near.specs.PathRequests.{request_of}
use Rattle.oram_near.proofs.requests.is_in_order.Given as goal

abbrev pub invariant-loop-request : goal.invariant-loop-request
invariant-loop-request l = is_in_order (map request_of l.requests) ≡ goes_on l.phase (drop l.request-index (map request_of l.requests))
