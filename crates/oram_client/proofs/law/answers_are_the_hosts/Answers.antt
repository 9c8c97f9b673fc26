use Rattle.oram_client.specs.Reconnect.{dialer_kind}
use Rattle.oram_client.proofs.OneHost.{answers_are_the_hosts}
use Rattle.oram_client.proofs.law.answers_are_the_hosts.Goals as goal

pub returns : goal.returns
returns g c = answers_are_the_hosts (dialer_kind g.D.Dial.opens g.D.Dial.fails g.D.Dial.pauses g.D.Dial.reads g.D.Dial.carries)
