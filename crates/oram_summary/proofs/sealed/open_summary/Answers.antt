use Rattle.std.proofs.Common.{◌≡◌, ◌∙◌, List, ℕ, ap, subst, Err, IfOk}
use Rattle.oram_summary.specs.declared.faults.SummaryFault.TheVariants.{Tag}
use Rattle.oram_summary.specs.Text.{IsTextOf, text_of}
use Rattle.oram_summary.proofs.SealingLaws.{opened_ok}
use Rattle.oram_summary.proofs.sealed.open_summary.Goals as goal

pub returns-in-Err-clause-only : goal.returns-in-Err-clause-only
returns-in-Err-clause-only c = λ summary is. c.in-Err.ensures.only (text_of summary) is.opens

pub returns-in-Err-clause-tag : goal.returns-in-Err-clause-tag
returns-in-Err-clause-tag c = λ wrong.
    let same : c.in-Err.fault ≡ Tag = cc in
    c.in-Err.ensures.tag (ap Err same)

pub returns-clause-ok : goal.returns-clause-ok
returns-clause-ok c =
    opened_ok c.args.key.now c.args.sealed.now c.in-Ok.text.items c.in-Ok.ensures.ok c.decode_summary.result
    (subst (λ (text : List ℕ). IfOk c.decode_summary.result (IsTextOf text)) c.deref.ensures.value c.decode_summary.ensures.ok)

pub returns-clause-only : goal.returns-clause-only
returns-clause-only c = λ summary is.
    c.decode_summary.ensures.only summary (record { summary = is.summary; text = c.deref.ensures.value ∙ c.in-Ok.ensures.only (text_of summary) is.opens })
