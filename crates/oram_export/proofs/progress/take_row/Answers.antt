use Rattle.std.proofs.Common.{None, Some, refl}
use Rattle.oram_records.specs.Messages.{row_text}
use Rattle.oram_export.proofs.Staging.{further_by_one, one_row}
use Rattle.oram_export.proofs.progress.take_row.Goals as goal

pub returns-in_ok-pass_node-in-Some-None-default-clause-ok :
    goal.returns-in_ok-pass_node-in-Some-None-default-clause-ok
returns-in_ok-pass_node-in-Some-None-default-clause-ok g c =
    let passes = c.in_ok-pass_node-in-Some-None-default.ensures.ok in
    let found = c.in-Some-None-default.ensures.some in
    (row_text None, (rw c.in-Some-None-default.field-0-0-is at found), one_row (g.V.RecordVisitor.sees c.args.visitor.now) c.args.record_len _ _ None (row_text None) refl tt (record { scan = passes.scan; levels = passes.levels; target = refl }))

pub returns-in_ok-pass_node-in-Some-None-default-clause-next :
    goal.returns-in_ok-pass_node-in-Some-None-default-clause-next
returns-in_ok-pass_node-in-Some-None-default-clause-next g c =
    let passes = c.in_ok-pass_node-in-Some-None-default.ensures.ok in
    further_by_one _ _ None c.requires.under_way passes.scan passes.levels

pub returns-in_ok-take_record-in-Some-Some-default-clause-ok :
    goal.returns-in_ok-take_record-in-Some-Some-default-clause-ok
returns-in_ok-take_record-in-Some-Some-default-clause-ok g c =
    let takes = c.in_ok-take_record-in-Some-Some-default.ensures.ok in
    let found = c.in-Some-Some-default.ensures.some in
    let here = (rw c.in-Some-Some-default.field-0-0-is at found) in
    let row = Some (c.in-Some-Some-default.record.now, takes.0) in
    (row_text (Some c.in-Some-Some-default.record.now), here.1, one_row (g.V.RecordVisitor.sees c.args.visitor.now) c.args.record_len _ _ row (row_text (Some c.in-Some-Some-default.record.now)) refl here.0 takes.1)

pub returns-in_ok-take_record-in-Some-Some-default-clause-next :
    goal.returns-in_ok-take_record-in-Some-Some-default-clause-next
returns-in_ok-take_record-in-Some-Some-default-clause-next g c =
    let takes = c.in_ok-take_record-in-Some-Some-default.ensures.ok in
    further_by_one _ _ (Some (c.in-Some-Some-default.record.now, takes.0)) c.requires.under_way takes.1.scan takes.1.levels
