use Rattle.std.proofs.Common.{ℕ, List, length, ap, ◌∙◌}
use Rattle.oram_redo.specs.declared.file_pair.FileKind.TheVariants.{Records}
use Rattle.oram_store.proofs.RowBytes.{answer_is, payload_at, rows_fit_answer}
use Rattle.oram_store.proofs.rows.read_rows.Goals as goal

pub returns-clause-fits : goal.returns-clause-fits
returns-clause-fits g c =
    let len : ℕ = c.args.tree.now.shape.record_len in
    let width : ℕ = c.cell_len-width.result in
    rows_fit_answer len width c.args.count c.in_ok-cells.cells.items c.push_rows.new.rows.items c.requires.some c.requires.few
    (answer_is len width c.args.count c.in_ok-cells.cells.items _ _ _ _ c.in_ok-answer.ensures.items c.in_ok-push.ensures.items c.deref.ensures.value
    (c.in_ok-push_rows.ensures c.args.count (ap (λ (l : List ℕ). length l) c.deref.ensures.value ∙ c.in_ok-cells.ensures.len)))

pub returns-clause-rows : goal.returns-clause-rows
returns-clause-rows g c honest =
    let tree = c.args.tree.now in
    let width : ℕ = c.cell_len-width.result in
    answer_is tree.shape.record_len width c.args.count c.in_ok-cells.cells.items _ _ _ _ c.in_ok-answer.ensures.items c.in_ok-push.ensures.items c.deref.ensures.value
    (c.in_ok-push_rows.ensures c.args.count (ap (λ (l : List ℕ). length l) c.deref.ensures.value ∙ c.in_ok-cells.ensures.len))
    ∙ payload_at tree (g.F.FilePair.model.seen c.args.file.now.files Records) c.args.count c.args.first width c.cell_at.result c.in_ok-cells.cells.items c.requires.within c.cell_len-width.ensures c.cell_at.ensures.place
    (c.in_ok-cells.ensures.bytes honest)
