use Rattle.oram_link_laws.proofs.Ran.{honest_links_are_run}
use Rattle.oram_link_laws.proofs.law.honest_links_are_run.Goals as goal

pub returns : goal.returns
returns c c' = honest_links_are_run _
