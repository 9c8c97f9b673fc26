use Rattle.oram_nbd.proofs.Beside.{call_within}
use Rattle.oramdisk.proofs.watched_disk.WatchedDiskBlockDevice.carry_out.Goals as goal

pub returns-clause-goes : goal.returns-clause-goes
returns-clause-goes g c = call_within (λ d. d.disk) c.watch.ensures.same c.carry_out-done.ensures.goes
