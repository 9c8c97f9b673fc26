use Rattle.std.proofs.Common.{◌≡◌, ◌∷◌, ◌∙◌}
use Rattle.oram_kept.specs.Reading.{parts_around}
use Rattle.oram_kept.specs.Text.{Parts}
use Rattle.oram_kept.proofs.Known.{knows_one}
use Rattle.oram_kept.proofs.keeper.TextKeeper.open.Goals as goal

pub returns-clause-knows : goal.returns-clause-knows
returns-clause-knows g c honest =
    let p : Parts = parts_around c.in_ok-kept.kept.table c.in_ok-kept.kept.records c.in_ok-kept.text.around in
    let same : (record { before = c.deref.result.now; table = c.deref-2.result.now; after = c.deref-3.result.now; records = c.deref-4.result.now }) ≡ p =
    (λ i. record { before = c.deref.ensures.value i; table = (c.deref-2.ensures.value ∙ c.in_ok-kept.ensures.table) i; after = c.deref-3.ensures.value i; records = (c.deref-4.ensures.value ∙ c.in_ok-kept.ensures.records) i }) in
    knows_one g.F.FilePair.model p _ (c.note.ensures ∙ (λ i. same i ∷ c.new-history.ensures i)) (c.in_ok-kept.ensures.kept honest)
