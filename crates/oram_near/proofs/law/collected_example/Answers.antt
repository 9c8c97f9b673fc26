use Rattle.oram_near.proofs.FormattedBytes.{collected_example}
use Rattle.oram_near.proofs.law.collected_example.Goals as goal

pub returns : goal.returns
returns c = collected_example
