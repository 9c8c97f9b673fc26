use Rattle.std.proofs.Common.{◌≡◌, drop, take}
use Rattle.oram_wire.specs.ListOfBodies.{bodies_in}
use Rattle.oram_semantics.specs.NextFetches.{fetch_bodies, first_fetches}
use Rattle.oram_core.proofs.next_fetches.first_bodies.Given as goal

abbrev pub invariant-loop-at : goal.invariant-loop-at
invariant-loop-at l = record {
  made : bodies_in l.bodies.items ≡ fetch_bodies (first_fetches l.device l.table (drop l.from (take l.at l.queue.items)));
}
