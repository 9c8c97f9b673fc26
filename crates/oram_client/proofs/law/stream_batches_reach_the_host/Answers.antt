use Rattle.oram_client.proofs.Reached.{stream_batches_reach_the_host}
use Rattle.oram_client.proofs.law.stream_batches_reach_the_host.Goals as goal

pub returns : goal.returns
returns g c = stream_batches_reach_the_host _ _
