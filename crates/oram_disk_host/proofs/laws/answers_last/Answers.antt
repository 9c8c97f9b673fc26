use Rattle.oram_disk_host.proofs.Lasting.{answers_last}
use Rattle.oram_disk_host.proofs.laws.answers_last.Goals as goal

pub returns : goal.returns
returns g c = answers_last g.F.FilePair.model g.met.F.FilePair.only_now g.met.F.FilePair.counts_now g.met.F.FilePair.whole
