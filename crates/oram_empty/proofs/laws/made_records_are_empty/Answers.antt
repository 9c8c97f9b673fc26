use Rattle.oram_empty.proofs.Made.{made_empty}
use Rattle.oram_empty.proofs.laws.made_records_are_empty.Goals as goal

pub returns : goal.returns
returns c = made_empty
