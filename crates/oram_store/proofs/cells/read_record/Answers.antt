use Rattle.std.proofs.Common.{◌≡◌, ◌-◌, length, true, arith, rules}
use Rattle.std.specs.Prelude.{◌==◌}
use Rattle.std.proofs.lemmas.Bool.Decides.{nat_tests}
use Rattle.oram_redo.specs.declared.file_pair.FileKind.TheVariants.{Records}
use Rattle.oram_store.proofs.CellReads.{cell_onto}
use Rattle.oram_store.proofs.cells.read_record.Goals as goal

pub returns-clause-found : goal.returns-clause-found
returns-clause-found g c =
    let start : c.len-start.result - 1 ≡ length c.args.bytes.now.items - 1 = search rules in
    let one : (c.index-mark.result.now == 1) ≡ true → c.index-mark.result.now ≡ 1 = grind (arith, nat_tests) in
    cell_onto ((c.index-mark.result.now == 1) ≡ true) (g.F.FilePair.model.is_honest c.read_onto.new.self.files) c.args.tree.now c.args.node (g.F.FilePair.model.seen c.args.file.now.files Records) c.requires.node
    c.args.bytes.now.items c.truncate.new.self.items c.read_onto.new.bytes.items _ c.index-last.result.now c.index-mark.result.now c.cell_at.result c.requires.begun start c.index-last.ensures c.truncate.ensures.items
    c.in_ok-read_onto.ensures.bytes c.cell_at.ensures.place c.index-mark.ensures one
