use Rattle.std.proofs.Common.{arith}
use Rattle.oram_geometry.specs.Sizes.{record_len_of}
use Rattle.oram_disk_client.proofs.read_command.settle_host.Goals as goal

pub new-requires-clause-some : goal.new-requires-clause-some
unfolding record_len_of
new-requires-clause-some g c = omega (arith, c.record_len.ensures.value)
