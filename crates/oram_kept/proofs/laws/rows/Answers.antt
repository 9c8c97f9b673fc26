use Rattle.oram_kept.proofs.WorkedRows.{worked_rows}
use Rattle.oram_kept.proofs.laws.rows.Goals as goal

pub returns : goal.returns
returns c = worked_rows
