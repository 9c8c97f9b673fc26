use Rattle.std.proofs.Common.{rules}
use Rattle.oram_geometry.specs.Sizes.{record_len_of}
use Rattle.oram_geometry.proofs.Device.record_len.Goals as goal

pub returns-clause-value : goal.returns-clause-value
unfolding record_len_of
returns-clause-value c = search rules
