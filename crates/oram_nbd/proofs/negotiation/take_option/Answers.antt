use Rattle.std.proofs.Common.{◌<◌, List, ℕ, None, refl, sym, ◌∙◌, subst, arith}
use Rattle.std.specs.Io.KnownBytes.{Appends}
use Rattle.std.proofs.KnownBytes.{Appends-nil}
use Rattle.std.proofs.lemmas.Result.{err_from_is_err_and}
use Rattle.oram_nbd.specs.declared.TheConstants.{LONGEST_OPTION}
use Rattle.oram_nbd.specs.Handshake.{export_value, Answers, ExportValue}
use Rattle.oram_nbd.specs.Negotiation.{AnsweredOption}
use Rattle.oram_nbd.specs.Streams.{IsBegunText}
use Rattle.oram_nbd.proofs.Negotiated.{long_name, long_option, short_option}
use Rattle.oram_nbd.proofs.Pieces.{appends_same, begun_same, if_err}
use Rattle.oram_nbd.proofs.negotiation.take_option.Goals as goal

-- an option that carries too much

pub returns-in_err-send-clause-err : goal.returns-in_err-send-clause-err
returns-in_err-send-clause-err g c =
    let p = err_from_is_err_and c.from_residual-in_err-send.result c.from_residual-in_err-send.ensures.1 in
    let e : ExportValue = export_value c.args.export.now.name.now c.args.export.now.size c.args.export.now.minimum c.args.export.now.preferred in
    let skipped = c.in_ok-skip.ensures.ok in
    let text = c.deref.result.now in
    let x : AnsweredOption = record { option = c.args.head.option; content = skipped.0; answer = text } in
    let long = skipped.1 ∙ c.from.ensures in
    if_err _ _ _ _ p.1 (p.2 ∙ c.in_err-send.ensures.err.0)
    (x, None, refl, long, long_option e c.args.zeroes c.args.head skipped.0 text c.requires.head long c.if-head-gt-LONGEST_OPTION.true (λ same. grind (arith, c.eq.ensures, c.if-eq.false, same)) (c.deref.ensures.value ∙ c.in_ok-answer.ensures), skipped.2, begun_same _ _ text c.in_err-send.ensures.err.1)

pub returns-then-head-gt-LONGEST_OPTION-clause-ok : goal.returns-then-head-gt-LONGEST_OPTION-clause-ok
returns-then-head-gt-LONGEST_OPTION-clause-ok g c =
    let e : ExportValue = export_value c.args.export.now.name.now c.args.export.now.size c.args.export.now.minimum c.args.export.now.preferred in
    let skipped = c.in_ok-skip.ensures.ok in
    let text = c.deref.result.now in
    let x : AnsweredOption = record { option = c.args.head.option; content = skipped.0; answer = text } in
    let long = skipped.1 ∙ c.from.ensures in
    (x, refl, long, long_option e c.args.zeroes c.args.head skipped.0 text c.requires.head long c.if-head-gt-LONGEST_OPTION.true (λ same. grind (arith, c.eq.ensures, c.if-eq.false, same)) (c.deref.ensures.value ∙ c.in_ok-answer.ensures), skipped.2, appends_same _ _ text c.in_ok-send.ensures.ok)

pub returns-then-eq-clause-err : goal.returns-then-eq-clause-err
returns-then-eq-clause-err g c =
    let skipped = c.in_ok-skip.ensures.ok in
    let long = skipped.1 ∙ c.from.ensures in
    let e : ExportValue = export_value c.args.export.now.name.now c.args.export.now.size c.args.export.now.minimum c.args.export.now.preferred in
    (skipped.0, grind (arith, c.eq.ensures, c.if-eq.true), long, long_name e c.args.zeroes skipped.0 c.requires.name (subst (λ (n : ℕ). LONGEST_OPTION < n) (sym long) c.if-head-gt-LONGEST_OPTION.true), skipped.2, Appends-nil (g.W.Write.contents c.args.writer.now))

-- one that is answered

pub returns-in_err-send-2-clause-err : goal.returns-in_err-send-2-clause-err
returns-in_err-send-2-clause-err g c =
    let p = err_from_is_err_and c.from_residual-in_err-send-2.result c.from_residual-in_err-send-2.ensures.1 in
    let e : ExportValue = export_value c.args.export.now.name.now c.args.export.now.size c.args.export.now.minimum c.args.export.now.preferred in
    let content = c.in_ok-content.content.items in
    let came = c.in_ok-content.ensures.ok in
    let answer = c.in-Some.answer in
    let x : AnsweredOption = record { option = c.args.head.option; content = content; answer = answer.text.items } in
    let answers = rw c.in-Some.is at c.in_ok-answer-2.ensures in
    let all = subst (λ (b : List ℕ). Answers e c.args.zeroes c.args.head.option b answer.text.items answer.ends) c.deref-2.ensures.value answers in
    let wrote = subst (λ (b : List ℕ). IsBegunText (g.W.Write.contents c.args.writer.now) (g.W.Write.contents c.send-2.new.writer) b) c.deref-3.ensures.value (begun_same _ _ c.deref-3.result.now c.in_err-send-2.ensures.err.1) in
    if_err _ _ _ _ p.1 (p.2 ∙ c.in_err-send-2.ensures.err.0)
    (x, answer.ends, refl, came.0, short_option e c.args.zeroes c.args.head content answer.text.items answer.ends c.requires.head came.0 c.if-head-gt-LONGEST_OPTION.false all, came.1, wrote)

pub returns-clause-ok : goal.returns-clause-ok
returns-clause-ok g c =
    let e : ExportValue = export_value c.args.export.now.name.now c.args.export.now.size c.args.export.now.minimum c.args.export.now.preferred in
    let content = c.in_ok-content.content.items in
    let came = c.in_ok-content.ensures.ok in
    let answer = c.in-Some.answer in
    let x : AnsweredOption = record { option = c.args.head.option; content = content; answer = answer.text.items } in
    let answers = rw c.in-Some.is at c.in_ok-answer-2.ensures in
    let all = subst (λ (b : List ℕ). Answers e c.args.zeroes c.args.head.option b answer.text.items answer.ends) c.deref-2.ensures.value answers in
    let wrote = subst (λ (b : List ℕ). Appends (g.W.Write.contents c.args.writer.now) (g.W.Write.contents c.send-2.new.writer) b) c.deref-3.ensures.value (appends_same _ _ c.deref-3.result.now c.in_ok-send-2.ensures.ok) in
    (x, refl, came.0, short_option e c.args.zeroes c.args.head content answer.text.items answer.ends c.requires.head came.0 c.if-head-gt-LONGEST_OPTION.false all, came.1, wrote)
