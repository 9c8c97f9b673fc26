use Rattle.std.proofs.Common.{◌≡◌, ◌<◌}
use Rattle.oram_geometry.specs.Sizes.{address_in, blocks_in}
use Rattle.oram_geometry.proofs.Device.address_in.Given as goal

abbrev pub invariant-loop : goal.invariant-loop
invariant-loop l = (l.within ≡ address_in l.self l.counter l.address) × (l.within < blocks_in l.self l.counter)
