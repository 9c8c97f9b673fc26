use Rattle.oram_link_laws.proofs.ResentStores.{resent_stores_leave_the_same}
use Rattle.oram_link_laws.proofs.law.resent_stores_leave_the_same.Goals as goal

pub returns : goal.returns
returns c = resent_stores_leave_the_same
