use Rattle.oram_process_laws.proofs.TwoLives.{two_lives_example}
use Rattle.oram_process_laws.proofs.law.two_lives_example.Goals as goal

pub returns : goal.returns
returns c = two_lives_example
