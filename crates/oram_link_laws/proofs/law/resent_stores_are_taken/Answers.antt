use Rattle.oram_link_laws.proofs.Answered.{resent_stores_are_taken}
use Rattle.oram_link_laws.proofs.law.resent_stores_are_taken.Goals as goal

pub returns : goal.returns
returns c = resent_stores_are_taken
