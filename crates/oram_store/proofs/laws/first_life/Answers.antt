use Rattle.std.proofs.Common.{None, refl, ◌∙◌}
use Rattle.std.specs.Prelude.{replicate}
use Rattle.oram_redo.specs.declared.file_pair.FileKind.TheVariants.{Records}
use Rattle.oram_store.proofs.Lives.{none_at_first, stands_alone}
use Rattle.oram_store.proofs.laws.first_life.Goals as goal

pub returns : goal.returns
returns g c honest left now =
    let model = g.F.FilePair.model in
    let made = c.create.new.files in
    let was_opened = c.is_stored.ensures.runs.after.honest honest in
    let opened = c.in_ok-store.ensures.found was_opened (replicate 256 None) (model.seen made Records) (stands_alone (model.seen made) c.in_ok-create.ensures.log) c.in_ok-create.ensures.records in
    c.in_ok-is_stored.ensures.found c.if-not-branch.false honest opened.1 (λ tree node. opened.2 tree node ∙ none_at_first 256 (model.seen made Records) refl tree node) left now
