use Rattle.std.proofs.Common.{inr, refl, rules}
use Rattle.oram_host.specs.declared.trees.Tree.{Tree}
use Rattle.oram_host.proofs.Records.{nodes-insert, puts_record, whole-insert}
use Rattle.oram_host.proofs.trees.Tree.put.Goals as goal

pub returns-clause-tree : goal.returns-clause-tree
returns-clause-tree c =
    let bytes = c.in_ok-copy.field-0 in record {
      shape = c.requires.shape;
      ordered = c.insert.ensures.ordered;
      nodes = nodes-insert c.args.self.now.depth c.args.node bytes c.args.self.now.records c.insert.new.self c.in_ok-insert.ensures.entries (search rules) c.requires.nodes;
      whole = whole-insert c.args.self.now.record_len c.args.node bytes c.args.self.now.records c.insert.new.self c.in_ok-insert.ensures.entries (inr (search rules)) c.requires.whole;
    }

pub returns-clause-put : goal.returns-clause-put
returns-clause-put c =
    let new : Tree = record { depth = c.args.self.now.depth; record_len = c.args.self.now.record_len; records = c.insert.new.self } in
    puts_record c.args.self.now new c.args.node c.args.bytes.now c.requires.ordered c.insert.ensures.ordered refl refl (search rules) (search rules) c.requires.shape.long (search rules)
