use Rattle.std.proofs.Common.{[], append-nil}
use Rattle.oram_host.proofs.Transfers.{begun}
use Rattle.oram_host.proofs.images.writer.write.Goals as goal

pub returns-in-Ok-clause-begun : goal.returns-in-Ok-clause-begun
returns-in-Ok-clause-begun g c = begun _ _ c.args.bytes.now [] c.args.bytes.now c.in-Ok.ensures.ok (append-nil c.args.bytes.now)

pub returns-in-Err-clause-begun : goal.returns-in-Err-clause-begun
returns-in-Err-clause-begun g c = let part = c.in-Err.ensures.err in (part.0, part.2)
