use Rattle.std.proofs.Common.{◌≡◌, ◌∙◌, ℕ, List, ap, length, slice_index_or, sym}
use Rattle.oram_core.specs.Core.{CoreValue}
use Rattle.oramdisk.proofs.serve_command.note_table.Goals as goal

pub returns-then-has_table-clause-noted : goal.returns-then-has_table-clause-noted
returns-then-has_table-clause-noted g c = λ p is _.
    let kept = λ (k : CoreValue g.row.S.Denot). k.state.table in
    let same : c.forget_changes.new.self.state.table ≡ p.table = ap kept c.forget_changes.ensures ∙ sym c.table.ensures ∙ c.has_table.ensures p is c.if-has_table.true in
    record { long = ap length same; others = λ i none. ap (λ (l : List ℕ). slice_index_or l i 0) same }
