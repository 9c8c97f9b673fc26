use Rattle.std.proofs.Common.{◌≡◌, take, map}
use Rattle.std.specs.List.{AllByRecursion}
use Rattle.oram_rounds.specs.Batches.{texts}
use Rattle.oram_near.specs.PathRequests.{IsOfDevice, path_body, request_of}
use Rattle.oram_near.proofs.requests.read_each.Given as goal

abbrev pub invariant-loop-body : goal.invariant-loop-body
invariant-loop-body l = record {
  named : take l.body-index (texts l.bodies) ≡ map path_body (map request_of l.requests.items);
  paths : AllByRecursion (IsOfDevice l.device l.record_len) (map request_of l.requests.items);
}
