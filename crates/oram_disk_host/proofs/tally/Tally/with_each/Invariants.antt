use Rattle.std.proofs.Common.{◌≡◌, take}
use Rattle.oram_disk_host.specs.Tallies.{Counts}
use Rattle.oram_wire.specs.ListOfBodies.{bodies_in}
use Rattle.oram_disk_host.proofs.tally.Tally.with_each.Given as goal

abbrev pub invariant-loop-body : goal.invariant-loop-body
invariant-loop-body l = record {
  counts : Counts l.self (take l.body-index (bodies_in l.bodies)) l.answer l.tally;
  failure : l.tally.failure ≡ l.self.failure;
}
