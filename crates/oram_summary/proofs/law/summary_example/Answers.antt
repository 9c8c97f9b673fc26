use Rattle.oram_summary.proofs.WorkedRows.{small_is_summary}
use Rattle.oram_summary.proofs.law.summary_example.Goals as goal

pub returns : goal.returns
returns c = small_is_summary
