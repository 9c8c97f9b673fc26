use Rattle.oram_rows.proofs.Completed.{completed_whole}
use Rattle.oram_rows.proofs.law.completed_answers_are_whole.Goals as goal

pub returns : goal.returns
returns c = completed_whole
