use Rattle.std.proofs.Common.{◌+◌, ◌∷◌, ◌++◌, [], List, ℕ, get_or, take, sym, subst}
use Rattle.std.specs.Global.{Vec}
use Rattle.std.proofs.lemmas.List.{take_more}
use Rattle.std.proofs.lemmas.Slice.Zip.{all_zipped_more}
use Rattle.oram_store.specs.Groups.{HoldGroupCells, HoldsCellsIn}
use Rattle.oram_store.specs.declared.groups.Change.{Change}
use Rattle.oram_store.proofs.groups.group_cells.Goals as goal

pub loop-change-preserved : goal.loop-change-preserved
loop-change-preserved c =
    let changes : List Change = c.args.changes.now in
    let i : ℕ = c.loop-change.change-index in
    let change : Change = c.change-item.result in
    let here : HoldsCellsIn c.in_ok-change_cells.field-0 change = c.in_ok-change_cells.ensures in
    let more = all_zipped_more HoldsCellsIn c.loop-change.cells.items (take i changes) c.in_ok-change_cells.field-0 (get_or changes i change) c.loop-change.invariant (subst (HoldsCellsIn c.in_ok-change_cells.field-0) c.change-item.is here) in
    subst (λ (cells : List (Vec ℕ)). HoldGroupCells cells (take (i + 1) changes)) (sym c.in_ok-push.ensures.items)
    (subst (λ (some : List Change). HoldGroupCells (c.loop-change.cells.items ++ c.in_ok-change_cells.field-0 ∷ []) some) (sym (take_more changes i change c.loop-change-test.true)) more)
