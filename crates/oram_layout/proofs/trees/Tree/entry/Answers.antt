use Rattle.oram_layout.proofs.EntryReads.{entry_of_parts}
use Rattle.oram_layout.proofs.trees.Tree.entry.Goals as goal

pub returns : goal.returns
returns c = entry_of_parts c.args.self.now c.said-said.result c.check_of-check.result c.said-said.ensures c.check_of-check.ensures
