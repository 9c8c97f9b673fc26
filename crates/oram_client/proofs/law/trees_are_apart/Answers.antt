use Rattle.oram_client.proofs.TreesApart.{trees_are_apart}
use Rattle.oram_client.proofs.law.trees_are_apart.Goals as goal

pub returns : goal.returns
returns c = trees_are_apart
