use Rattle.oram_link_laws.proofs.Rows.{resending_example}
use Rattle.oram_link_laws.proofs.law.resending_example.Goals as goal

pub returns : goal.returns
returns c = resending_example
