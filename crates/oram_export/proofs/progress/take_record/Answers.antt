use Rattle.std.proofs.Common.{arith}
use Rattle.oram_export.proofs.Staging.{few_nodes}
use Rattle.oram_export.proofs.progress.take_record.Goals as goal

pub count-requires-clause-node : goal.count-requires-clause-node
count-requires-clause-node g c = let few = few_nodes c.args.progress.now.scan.depth c.requires.under_way.deep in omega arith

pub count-requires-clause-few : goal.count-requires-clause-few
count-requires-clause-few g c = let few = few_nodes c.args.progress.now.scan.depth c.requires.under_way.deep in let nodes = c.requires.under_way.nodes in omega (arith, nodes)
