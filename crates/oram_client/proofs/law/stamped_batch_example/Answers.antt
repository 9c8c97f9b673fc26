use Rattle.oram_client.proofs.StampedExample.{stamped_batch_example}
use Rattle.oram_client.proofs.law.stamped_batch_example.Goals as goal

pub returns : goal.returns
returns c = stamped_batch_example
