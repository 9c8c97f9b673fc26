use Rattle.oram_link_laws.proofs.Mended.{resent_stores_mend_runs}
use Rattle.oram_link_laws.proofs.law.resent_stores_mend_runs.Goals as goal

pub returns : goal.returns
returns c = resent_stores_mend_runs
