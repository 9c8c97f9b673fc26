use Rattle.oram_client.specs.Reconnect.{dialer_kind}
use Rattle.oram_client.proofs.OneHost.{faults_are_of_memory}
use Rattle.oram_client.proofs.law.faults_are_of_memory.Goals as goal

pub returns : goal.returns
returns g c = faults_are_of_memory (dialer_kind g.D.Dial.opens g.D.Dial.fails g.D.Dial.pauses g.D.Dial.reads g.D.Dial.carries)
