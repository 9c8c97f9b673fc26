use Rattle.oram_link_laws.proofs.Same.{resent_exchanges_leave_the_same}
use Rattle.oram_link_laws.proofs.law.resent_exchanges_leave_the_same.Goals as goal

pub returns : goal.returns
returns c = resent_exchanges_leave_the_same
