use Rattle.std.proofs.Common.{None, refl, ◌∙◌}
use Rattle.std.specs.Prelude.{replicate}
use Rattle.oram_redo.specs.declared.file_pair.FileKind.TheVariants.{Records}
use Rattle.oram_store.proofs.Lives.{none_at_first, stands_alone}
use Rattle.oram_store.proofs.laws.first_tree.Goals as goal

pub returns-clause-sound : goal.returns-clause-sound
returns-clause-sound g c honest =
    let seen = g.F.FilePair.model.seen c.create.new.files in
    let was_opened = c.is_done.ensures.runs.after.honest honest in
    let opened = c.in_ok-store.ensures.found was_opened (replicate 256 None) (seen Records) (stands_alone seen c.in_ok-create.ensures.log) c.in_ok-create.ensures.records in
    let call = c.in_ok-is_done.ensures in
    (call.serves c.if-not-branch.false honest opened.1).sound (call.goes_on c.if-not-branch.false)

pub returns-clause-blank : goal.returns-clause-blank
returns-clause-blank g c honest tree node =
    let seen = g.F.FilePair.model.seen c.create.new.files in
    let was_opened = c.is_done.ensures.runs.after.honest honest in
    let opened = c.in_ok-store.ensures.found was_opened (replicate 256 None) (seen Records) (stands_alone seen c.in_ok-create.ensures.log) c.in_ok-create.ensures.records in
    let call = c.in_ok-is_done.ensures in
    (call.serves c.if-not-branch.false honest opened.1).records (call.goes_on c.if-not-branch.false) tree node ∙ opened.2 tree node ∙ none_at_first 256 (seen Records) refl tree node
