use Rattle.oram_empty.proofs.Example.{example}
use Rattle.oram_empty.proofs.laws.formatting_example.Goals as goal

pub returns : goal.returns
returns c = example
