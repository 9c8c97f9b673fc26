use Rattle.std.proofs.Common.{[], append-nil}
use Rattle.oram_host.proofs.Transfers.{begun}
use Rattle.oramsim.proofs.machine.put.Goals as goal

pub returns-in-Ok-clause-cut : goal.returns-in-Ok-clause-cut
returns-in-Ok-clause-cut g c = begun _ _ c.args.text.now [] c.args.text.now c.in-Ok.ensures.ok (append-nil c.args.text.now)

pub returns-in-Err-clause-cut : goal.returns-in-Err-clause-cut
returns-in-Err-clause-cut g c = (c.in-Err.ensures.err.0, c.in-Err.ensures.err.2)
