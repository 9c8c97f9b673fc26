use Rattle.oram_rows.proofs.Example.{rows_example}
use Rattle.oram_rows.proofs.law.rows_example.Goals as goal

pub returns : goal.returns
returns c = rows_example
