use Rattle.oram_near.proofs.Example.{near_example}
use Rattle.oram_near.proofs.law.near_example.Goals as goal

pub returns : goal.returns
returns c = near_example
