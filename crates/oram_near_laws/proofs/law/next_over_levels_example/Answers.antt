use Rattle.oram_near_laws.proofs.Example.{next_over_levels_example as example}
use Rattle.oram_near_laws.proofs.law.next_over_levels_example.Goals as goal

pub returns : goal.returns
returns c = example
