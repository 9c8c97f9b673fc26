use Rattle.oram_client.proofs.TwoTries.{two_tries_example}
use Rattle.oram_client.proofs.law.two_tries_example.Goals as goal

pub returns : goal.returns
returns c = two_tries_example
