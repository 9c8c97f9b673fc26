use Rattle.oram_host_laws.proofs.AnyHost.{lying_hosts_fail}
use Rattle.oram_host_laws.proofs.law.lying_hosts_fail.Goals as goal

pub returns : goal.returns
returns c = lying_hosts_fail
