use Rattle.std.proofs.Common.{map, take}
use Rattle.std.specs.List.{AllByRecursion}
use Rattle.oram_near.specs.NearStreams.{IsStore}
use Rattle.oram_near.specs.PathRequests.{request_of}
use Rattle.oram_near.proofs.requests.are_stores.Given as goal

abbrev pub invariant-loop-request : goal.invariant-loop-request
invariant-loop-request l = AllByRecursion IsStore (take l.request-index (map request_of l.requests))
