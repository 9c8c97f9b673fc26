use Rattle.oram_volume.proofs.Example.{next_process_example}
use Rattle.oram_volume.proofs.law.next_process_example.Goals as goal

pub returns : goal.returns
returns c = next_process_example
