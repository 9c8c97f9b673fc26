use Rattle.oram_rounds.proofs.ReadingProcess.{reading_process_example}
use Rattle.oram_rounds.proofs.law.reading_process_example.Goals as goal

pub returns : goal.returns
returns c = reading_process_example
