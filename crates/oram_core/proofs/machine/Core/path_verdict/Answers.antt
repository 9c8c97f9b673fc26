use Rattle.std.proofs.Common.{refl, Err, ap, sym, ◌∙◌, subst}
use Rattle.oram_hash.specs.Path.{Path}
use Rattle.oram_hash.specs.Tree.{IsPathOf}
use Rattle.oram_semantics.specs.Answers.{outcome_by}
use Rattle.oram_semantics.specs.Content.{entry_tree}
use Rattle.oram_core.specs.Core.{scheme_of}
use Rattle.oram_core.proofs.Judged.{forged_tells, path_tells, short_tells}
use Rattle.oram_core.proofs.AnswerVerdicts.{path_means, path_stands}
use Rattle.oram_core.proofs.machine.Core.path_verdict.Goals as goal

pub returns-in-Ok-clause-means : goal.returns-in-Ok-clause-means
returns-in-Ok-clause-means g c = λ w fits apart.
    let now = c.args.self.now in
    let v = scheme_of g.S.Sealer.cipher now in
    let means = path_means v now.state w c.args.records.now c.checked.result c.checked.ensures.sound c.requires.waiting c.requires.entry_number fits apart c.checked.ensures.checked in (
      means ∙ ap (outcome_by (entry_tree now.device now.state.entry_number)) c.in-Ok.is,
      subst (λ (p : Path). IsPathOf (w.records (entry_tree now.device now.state.entry_number)) p) (sym c.in-Ok.ensures.view) (path_stands v now.state w c.args.records.now c.in-Ok.path c.checked.result c.checked.ensures.sound c.requires.waiting c.requires.entry_number fits apart c.checked.ensures.checked c.in-Ok.is),
    )

pub returns-in-Ok-clause-tells : goal.returns-in-Ok-clause-tells
returns-in-Ok-clause-tells g c =
    let now = c.args.self.now in
    let v = scheme_of g.S.Sealer.cipher now in
    path_tells v now.state c.args.records.now c.in-Ok.path c.requires.entry_number c.in-Ok.ensures.view (c.checked.ensures.checked.accepted.0 (rw c.in-Ok.is refl))

pub returns-in-Err-Length-clause-tells : goal.returns-in-Err-Length-clause-tells
returns-in-Err-Length-clause-tells g c =
    let now = c.args.self.now in
    let v = scheme_of g.S.Sealer.cipher now in
    short_tells v now.state c.args.records.now c.requires.entry_number (c.checked.ensures.checked.short.0 (c.in-Err-Length.is ∙ ap Err c.in-Err-Length.field-0-is))

pub returns-in-Err-Tampered-clause-tells : goal.returns-in-Err-Tampered-clause-tells
returns-in-Err-Tampered-clause-tells g c =
    let now = c.args.self.now in
    let v = scheme_of g.S.Sealer.cipher now in
    forged_tells v now.state c.args.records.now c.tree_at_work.result c.in-Err-Tampered.level c.requires.entry_number c.tree_at_work.ensures.value ((c.checked.ensures.checked.tampered c.in-Err-Tampered.level).0 (c.in-Err-Tampered.is ∙ ap Err c.in-Err-Tampered.field-0-is))

pub returns-in-Err-Length-clause-means : goal.returns-in-Err-Length-clause-means
returns-in-Err-Length-clause-means g c = λ w fits apart.
    let now = c.args.self.now in
    let v = scheme_of g.S.Sealer.cipher now in
    path_means v now.state w c.args.records.now c.checked.result c.checked.ensures.sound c.requires.waiting c.requires.entry_number fits apart c.checked.ensures.checked ∙ ap (outcome_by (entry_tree now.device now.state.entry_number)) (c.in-Err-Length.is ∙ ap Err c.in-Err-Length.field-0-is)

pub returns-in-Err-Tampered-clause-means : goal.returns-in-Err-Tampered-clause-means
returns-in-Err-Tampered-clause-means g c = λ w fits apart.
    let now = c.args.self.now in
    let v = scheme_of g.S.Sealer.cipher now in
    rw c.tree_at_work.ensures.value (path_means v now.state w c.args.records.now c.checked.result c.checked.ensures.sound c.requires.waiting c.requires.entry_number fits apart c.checked.ensures.checked ∙ ap (outcome_by (entry_tree now.device now.state.entry_number)) (c.in-Err-Tampered.is ∙ ap Err c.in-Err-Tampered.field-0-is))
