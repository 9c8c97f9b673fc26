use Rattle.std.proofs.Common.{◌∙◌, ◌++◌, List, ℕ, ap, sym}
use Rattle.oram_rounds.specs.Batches.{texts}
use Rattle.oram_rounds.proofs.KeptText.{other_records}
use Rattle.oram_rounds.proofs.kept_file.split_before.Goals as goal

pub returns-then-parts-records-clause-torn : goal.returns-then-parts-records-clause-torn
returns-then-parts-records-clause-torn c = λ e stores note fields counted short long.
    let parts = c.in_ok-parts.parts in
    let read = c.in_ok-parts.ensures in
    other_records c.args.text.now (texts parts.stores.items) parts.note.now parts.fields.now parts.records_len
    (read.ok ∙ ap (λ (b : List ℕ). b ++ parts.fields.now) read.front) read.counted read.short read.small stores note fields counted short (λ same. c.if-parts-records.true (sym same ∙ long))
