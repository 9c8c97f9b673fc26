use Rattle.oram_host_laws.proofs.Honest.{new_hosts_serve}
use Rattle.oram_host_laws.proofs.law.new_hosts_serve.Goals as goal

pub returns : goal.returns
returns c = new_hosts_serve
