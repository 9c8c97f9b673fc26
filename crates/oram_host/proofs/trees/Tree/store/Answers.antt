use Rattle.std.proofs.Common.{◌≡◌, ◌+◌, ◌*◌, length, refl, rules}
use Rattle.oram_host.specs.declared.trees.Tree.{Tree}
use Rattle.oram_host.proofs.Paths.{are_records, stores_path}
use Rattle.oram_host.proofs.trees.Tree.store.Goals as goal

pub returns-in_err-make_room-clause-tree : goal.returns-in_err-make_room-clause-tree
returns-in_err-make_room-clause-tree c = record {
  shape = c.requires.shape;
  ordered = c.make_room.ensures.ordered;
  nodes = c.make_room.ensures.nodes c.requires.nodes;
  whole = c.make_room.ensures.whole c.args.self.now.record_len c.requires.whole;
}

pub returns-clause-tree : goal.returns-clause-tree
returns-clause-tree c =
    let tree = c.args.self.now in
    let whole : length c.args.records.now ≡ (tree.depth + 1) * tree.record_len = search rules in
    record {
      shape = c.requires.shape;
      ordered = c.replace_records.ensures.ordered;
      nodes = c.replace_records.ensures.nodes (c.make_room.ensures.nodes c.requires.nodes);
      whole = c.replace_records.ensures.whole tree.record_len (are_records tree.record_len (tree.depth + 1) c.args.records.now c.in_ok-copies.copies.items whole c.in_ok-copies.ensures.count c.in_ok-copies.ensures.each)
          (c.make_room.ensures.whole tree.record_len c.requires.whole);
    }

pub returns-clause-stored : goal.returns-clause-stored
returns-clause-stored c =
    let tree = c.args.self.now in
    let new : Tree = record { depth = tree.depth; record_len = tree.record_len; records = c.replace_records.new.records } in
    let whole : length c.args.records.now ≡ (tree.depth + 1) * tree.record_len = search rules in
    stores_path tree new c.make_room.new.records c.args.leaf c.args.records.now c.in_ok-copies.copies.items c.make_room.ensures.ordered c.replace_records.ensures.ordered refl refl (search rules) whole c.requires.shape.long
    c.replace_records.ensures.path c.in_ok-copies.ensures.each c.replace_records.ensures.others c.make_room.ensures.same
