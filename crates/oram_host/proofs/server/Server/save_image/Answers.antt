use Rattle.std.proofs.Common.{subst}
use Rattle.oram_host.specs.Host.{IsHost}
use Rattle.oram_host.proofs.LoadedHosts.{is_host}
use Rattle.oram_host.proofs.server.Server.save_image.Goals as goal

pub returns-clause-host : goal.returns-clause-host
returns-clause-host g c = subst IsHost c.self.view_is (is_host c.self.inside.trees c.self.invariant)
