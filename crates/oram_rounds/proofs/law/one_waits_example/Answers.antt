use Rattle.oram_rounds.proofs.Example.{one_waits_example}
use Rattle.oram_rounds.proofs.law.one_waits_example.Goals as goal

pub returns : goal.returns
returns c = one_waits_example
