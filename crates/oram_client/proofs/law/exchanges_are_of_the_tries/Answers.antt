use Rattle.oram_client.specs.Reconnect.{dialer_kind}
use Rattle.oram_client.proofs.OneHost.{exchanges_are_of_the_tries}
use Rattle.oram_client.proofs.law.exchanges_are_of_the_tries.Goals as goal

pub returns : goal.returns
returns g c = exchanges_are_of_the_tries (dialer_kind g.D.Dial.opens g.D.Dial.fails g.D.Dial.pauses g.D.Dial.reads g.D.Dial.carries)
