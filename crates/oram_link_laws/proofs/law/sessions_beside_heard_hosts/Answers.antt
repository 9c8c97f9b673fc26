use Rattle.oram_link_laws.proofs.Ran.{sessions_beside_heard_hosts}
use Rattle.oram_link_laws.proofs.law.sessions_beside_heard_hosts.Goals as goal

pub returns : goal.returns
returns c c' = sessions_beside_heard_hosts _
