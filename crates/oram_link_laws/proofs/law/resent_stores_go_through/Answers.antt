use Rattle.oram_link_laws.proofs.Put.{resent_stores_go_through}
use Rattle.oram_link_laws.proofs.law.resent_stores_go_through.Goals as goal

pub returns : goal.returns
returns c = resent_stores_go_through
