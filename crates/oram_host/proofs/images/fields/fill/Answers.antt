use Rattle.std.proofs.Common.{take}
use Rattle.oram_host.proofs.images.fields.fill.Goals as goal

pub returns-in-Ok-clause-consumed : goal.returns-in-Ok-clause-consumed
returns-in-Ok-clause-consumed g c = (take c.in-Ok.filled c.fill.new.buf, c.in-Ok.ensures.ok)

pub returns-in-Err-clause-consumed : goal.returns-in-Err-clause-consumed
returns-in-Err-clause-consumed g c = let part = c.in-Err.ensures.err in (part.0, part.2)
