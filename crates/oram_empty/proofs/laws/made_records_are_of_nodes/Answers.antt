use Rattle.oram_empty.proofs.Made.{of_nodes}
use Rattle.oram_empty.proofs.laws.made_records_are_of_nodes.Goals as goal

pub returns : goal.returns
returns c = of_nodes
