use Rattle.oram_stamps.proofs.LifeExample.{life_example}
use Rattle.oram_stamps.proofs.law.life_example.Goals as goal

pub returns : goal.returns
returns c = life_example
