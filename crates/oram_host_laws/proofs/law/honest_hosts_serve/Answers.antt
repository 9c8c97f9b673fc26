use Rattle.oram_host_laws.proofs.Honest.{honest_hosts_serve}
use Rattle.oram_host_laws.proofs.law.honest_hosts_serve.Goals as goal

pub returns : goal.returns
returns c = honest_hosts_serve
