use Rattle.oram_stamps.proofs.RefusalExample.{refusal_example}
use Rattle.oram_stamps.proofs.law.refusal_example.Goals as goal

pub returns : goal.returns
returns c = refusal_example
