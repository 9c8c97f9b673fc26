use Rattle.oram_link_laws.proofs.Rows.{mending_example}
use Rattle.oram_link_laws.proofs.law.mending_example.Goals as goal

pub returns : goal.returns
returns c = mending_example
