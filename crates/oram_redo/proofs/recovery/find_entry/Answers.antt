use Rattle.oram_redo.specs.declared.faults.RedoError.TheVariants.{Failed}
use Rattle.oram_redo.proofs.Outcomes.{if_err_passed, if_of_passed, if_ok_none, not_damaged}
use Rattle.std.proofs.Common.{ℕ, subst, sym, ◌∙◌, ⊎_elim, inl, inr}
use Rattle.oram_redo.specs.Recovery.{IsWholeAt}
use Rattle.oram_redo.specs.declared.file_pair.FileKind.TheVariants.{Log}
use Rattle.oram_redo.proofs.LogReads.{damaged_check, damaged_head, whole_along}
use Rattle.oram_redo.proofs.recovery.find_entry.Goals as goal

pub returns-then-not-branch-clause-damaged : goal.returns-then-not-branch-clause-damaged
returns-then-not-branch-clause-damaged g c honest is =
    let read_honest = c.is_whole.ensures.after.honest honest in
    let head = c.in-Some.head in
    let found = c.in-Some-entry_of.ensures.some in
    let log = g.F.FilePair.model.seen c.args.files.now Log in
    damaged_check c.args.bounds log c.args.at head.at head.len (sym (c.deref.ensures.value ∙ c.in_ok-bytes.ensures.bytes read_honest) ∙ c.in-Some.ensures.open)
    c.in-Some.ensures.in_range.0 c.in-Some.ensures.in_range.1 (λ whole.
    let here : IsWholeAt log c.args.at c.in-Some-entry_of.found.len = subst (λ (n : ℕ). IsWholeAt log c.args.at n) (sym found.1) whole in
    let there = whole_along _ log c.args.at c.in-Some-entry_of.found.len (λ i. sym (c.read.ensures.nothing_written.seen_same Log i)) here in
    let yes = (c.in_ok-is_whole.ensures.whole honest).1 there in
    let no = c.if-not-branch.true in
    cc (yes, no))

pub returns-in_default-entry_of-clause-damaged : goal.returns-in_default-entry_of-clause-damaged
returns-in_default-entry_of-clause-damaged g c honest is =
    damaged_head c.args.bounds _ c.args.at c.in-Some.head.at c.in-Some.head.len (sym (c.deref.ensures.value ∙ c.in_ok-bytes.ensures.bytes honest) ∙ c.in-Some.ensures.open) c.in-Some.ensures.in_range.0 c.in-Some.ensures.in_range.1 c.in_default-entry_of.ensures.none

pub returns-in_err-bytes-clause-nothing_written : goal.returns-in_err-bytes-clause-nothing_written
returns-in_err-bytes-clause-nothing_written g c = c.read.ensures.nothing_written

pub returns-in_err-bytes-clause-found : goal.returns-in_err-bytes-clause-found
returns-in_err-bytes-clause-found g c = if_ok_none c.from_residual.result _ c.from_residual.ensures.0

pub returns-in_err-bytes-clause-next : goal.returns-in_err-bytes-clause-next
returns-in_err-bytes-clause-next g c = if_ok_none c.from_residual.result _ c.from_residual.ensures.0

pub returns-in_err-bytes-clause-damaged : goal.returns-in_err-bytes-clause-damaged
returns-in_err-bytes-clause-damaged g c honest is = not_damaged c.from_residual.result _ (if_err_passed c.from_residual.result c.in_err-bytes.field-0.0 _ c.from_residual.ensures.1 c.in_err-bytes.ensures.errors) is

pub returns-in_err-bytes-clause-failed : goal.returns-in_err-bytes-clause-failed
returns-in_err-bytes-clause-failed g c is = if_of_passed c.from_residual.result c.in_err-bytes.field-0.0 Failed _ c.from_residual.ensures.1 c.in_err-bytes.ensures.failed is

pub returns-in_err-bytes-clause-after : goal.returns-in_err-bytes-clause-after
returns-in_err-bytes-clause-after g c = c.read.ensures.after

pub returns-in_err-bytes-clause-errors : goal.returns-in_err-bytes-clause-errors
returns-in_err-bytes-clause-errors g c = if_err_passed c.from_residual.result c.in_err-bytes.field-0.0 _ c.from_residual.ensures.1 (⊎_elim (λ memory. inl memory) (λ failed. inr (inl failed)) c.in_err-bytes.ensures.errors)
