use Rattle.oram_near_laws.proofs.Example.{reading_over_levels_example as example}
use Rattle.oram_near_laws.proofs.law.reading_over_levels_example.Goals as goal

pub returns : goal.returns
returns c = example
