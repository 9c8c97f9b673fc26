use Rattle.std.proofs.Common.{map, take}
use Rattle.std.specs.Option.{option_copied}
use Rattle.oram_rounds.specs.Batches.{texts}
use Rattle.oram_near.specs.EmptyRecords.{made_with}
use Rattle.oram_near.specs.NearCalls.{AreAnswered, client_of}
use Rattle.oram_near.specs.PathRequests.{request_of}
use Rattle.oram_near.proofs.near_link.NearLink.answer_each.Given as goal

abbrev pub invariant-loop-i : goal.invariant-loop-i
invariant-loop-i g l =
    AreAnswered (client_of (made_with g.E.EmptyRecords.record_at) l.self) (option_copied l.refusal) (take l.i (map request_of l.requests)) (take l.i (texts l.answers)) (texts l.given.items)
