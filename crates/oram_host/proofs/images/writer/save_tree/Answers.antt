use Rattle.std.proofs.Common.{◌∷◌, ◌++◌, [], length, refl, rules, ℕ, List}
use Rattle.std.specs.Int.{w32, to_be_bytes}
use Rattle.std.specs.List.{flat_map}
use Rattle.std.specs.Io.KnownBytes.{Appends}
use Rattle.oram_host.specs.Image.{record_text, tree_text}
use Rattle.oram_host.specs.Transfers.{Begins}
use Rattle.oram_host.specs.Trees.{kept_by, records_in}
use Rattle.oram_host.specs.declared.trees.Tree.{Tree}
use Rattle.oram_host.proofs.Transfers.{begun_first, begun_last}
use Rattle.oram_host.proofs.images.writer.save_tree.Goals as goal

-- the bytes before the records of a tree
abbrev head_of : ℕ → Tree → List ℕ
head_of number tree = (number ∷ tree.depth ∷ []) ++ to_be_bytes w32 tree.record_len ++ to_be_bytes w32 (length (records_in tree.records))

pub returns-in_err-write-clause-begun : goal.returns-in_err-write-clause-begun
returns-in_err-write-clause-begun g c =
    let tree = c.args.tree.now in
    let head = head_of c.args.number tree in
    let first : Begins (g.W.Write.contents c.args.writer.now) (g.W.Write.contents c.write.new.writer) head = (c.write.ensures.begun.0, search rules) in
    begun_first _ _ head (flat_map record_text (records_in tree.records)) (tree_text (c.args.number, kept_by tree)) first refl

pub returns-clause-begun : goal.returns-clause-begun
returns-clause-begun g c =
    let tree = c.args.tree.now in
    let head = head_of c.args.number tree in
    let first : Appends (g.W.Write.contents c.args.writer.now) (g.W.Write.contents c.write.new.writer) head = search rules in
    begun_last _ _ _ head (flat_map record_text (records_in tree.records)) first c.save_records.ensures.begun
