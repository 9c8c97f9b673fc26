use Rattle.std.proofs.Common.{◌≡◌, take, map}
use Rattle.std.specs.List.{FoldsTo}
use Rattle.oram_near.specs.Near.{Near, rest_of}
use Rattle.oram_near.specs.NearCalls.{TakesNear}
use Rattle.oram_near.specs.PathRequests.{request_of}
use Rattle.oram_near.proofs.requests.store_each.Given as goal

abbrev pub invariant-loop-request : goal.invariant-loop-request
invariant-loop-request l = record {
  levels : l.near.levels ≡ l.initial.near.levels;
  record_len : l.near.record_len ≡ l.initial.near.record_len;
  rest : rest_of l.near ≡ rest_of l.initial.near;
  stored : FoldsTo {P = Near} (TakesNear l.device) l.initial.near (take l.request-index (map request_of l.requests)) l.near;
}
