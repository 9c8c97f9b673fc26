use Rattle.oram_client.proofs.TreesApartExample.{trees_apart_example}
use Rattle.oram_client.proofs.law.trees_apart_example.Goals as goal

pub returns : goal.returns
returns c = trees_apart_example
