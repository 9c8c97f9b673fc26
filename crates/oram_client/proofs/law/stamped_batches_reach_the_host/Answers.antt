use Rattle.oram_client.proofs.StampedHost.{stamped_batches_reach_the_host}
use Rattle.oram_client.proofs.law.stamped_batches_reach_the_host.Goals as goal

pub returns : goal.returns
returns g c = stamped_batches_reach_the_host _ _
