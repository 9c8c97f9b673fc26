use Rattle.oram_link_laws.proofs.Same.{resent_stores_leave_one_host}
use Rattle.oram_link_laws.proofs.law.resent_stores_leave_one_host.Goals as goal

pub returns : goal.returns
returns c = resent_stores_leave_one_host
