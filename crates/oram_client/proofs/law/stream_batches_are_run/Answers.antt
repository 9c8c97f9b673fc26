use Rattle.oram_client.proofs.Streamed.{stream_batches_are_run}
use Rattle.oram_client.proofs.law.stream_batches_are_run.Goals as goal

pub returns : goal.returns
returns g c = stream_batches_are_run _ _
