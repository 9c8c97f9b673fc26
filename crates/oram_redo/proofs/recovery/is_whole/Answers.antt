use Rattle.std.proofs.Common.{sym, ◌∙◌, ap}
use Rattle.oram_redo.specs.Log.{check_bytes}
use Rattle.oram_redo.specs.declared.file_pair.FileKind.TheVariants.{Log}
use Rattle.oram_redo.proofs.LogReads.{text_and_check}
use Rattle.oram_redo.proofs.recovery.is_whole.Goals as goal

pub returns-clause-whole : goal.returns-clause-whole
returns-clause-whole g c honest =
    let log = g.F.FilePair.model.seen c.args.files.now Log in
    let read = c.in_ok-bytes.ensures.bytes honest in
    let back = text_and_check c.args.len c.args.at c.deref.result.now log (c.deref.ensures.value ∙ read) in
    let front = text_and_check c.args.len c.args.at c.deref-2.result.now log (c.deref-2.ensures.value ∙ read) in
    (λ yes. sym back.0 ∙ c.is_check_of.ensures.0 yes ∙ ap check_bytes front.1, λ same. c.is_check_of.ensures.1 (back.0 ∙ same ∙ ap check_bytes (sym front.1)))
