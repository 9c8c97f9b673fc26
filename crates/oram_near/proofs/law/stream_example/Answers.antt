use Rattle.oram_near.proofs.OneByOneExample.{stream_example}
use Rattle.oram_near.proofs.law.stream_example.Goals as goal

pub returns : goal.returns
returns c = stream_example
