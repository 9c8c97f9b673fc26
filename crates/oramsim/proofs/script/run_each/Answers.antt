use Rattle.std.proofs.Common.{◌≡◌, ◌<◌, true, Ok, length, ap, sym, subst, ◌∙◌, arith}
use Rattle.std.proofs.KnownBytes.{Keeps-refl}
use Rattle.std.specs.Io.BufRead.{strip_last}
use Rattle.oramsim.specs.Correspondence.{AreWhole}
use Rattle.oramsim.specs.declared.script.SimFault.TheVariants.{Read}
use Rattle.oramsim.proofs.Cut.{came_kept, cut_error, cut_here, cut_within}
use Rattle.oramsim.proofs.GivenUp.{raised}
use Rattle.oramsim.proofs.Progress.{came_none, came_more, came_end, came_bad}
use Rattle.oramsim.proofs.script.run_each.Goals as goal

pub loop-number-init : goal.loop-number-init
loop-number-init g c = record { whole = subst AreWhole (sym c.requires) tt; came = rw (c.requires) (came_none _ _) }

pub returns-in_err-next_line-clause-err : goal.returns-in_err-next_line-clause-err
returns-in_err-next_line-clause-err g c =
    let e = c.in_err-next_line.field-0.0 in raised _ _ e c.from_residual.ensures.1 (cut_here _ _ _ _ _ _ _ e c.loop-number.invariant.came c.next_line.ensures.text)

pub returns-then-not-branch-clause-ok : goal.returns-then-not-branch-clause-ok
returns-then-not-branch-clause-ok g c =
    let came = came_kept _ _ _ _ _ _ _ c.loop-number.invariant.came c.next_line.ensures.text in came_end _ _ _ _ _ _ came (c.in_ok-next_line.ensures.end (ap Ok c.if-not-branch.true))

pub loop-number-preserved : goal.loop-number-preserved
loop-number-preserved g c =
    let came = came_kept _ _ _ _ _ _ _ c.loop-number.invariant.came c.next_line.ensures.text in
    let line : Ok c.in_ok-next_line.field-0 ≡ Ok true = ap Ok c.if-not-branch.false in
    let some : 0 < length c.next_line.new.line.items = omega (arith, c.in_ok-next_line.ensures.some line, c.next_line.new.line.ok.0) in
    record {
      whole = c.in_ok-pass.ensures.whole;
      came = came_more _ _ _ _ _ _ _ _ _ c.next_line.new.line.items c.without_end.result.now came (c.in_ok-next_line.ensures.bytes line) (c.in_ok-next_line.ensures.rest line) some
          (c.without_end.ensures ∙ ap (strip_last 10) c.as_slice.ensures.value) (λ p f. c.in_ok-pass.ensures.ok p f (ap Ok c.if-not-branch-2.false));
    }

pub returns-in_err-pass-clause-err : goal.returns-in_err-pass-clause-err
returns-in_err-pass-clause-err g c =
    let came = came_kept _ _ _ _ _ _ _ c.loop-number.invariant.came c.next_line.ensures.text in
    let line : Ok c.in_ok-next_line.field-0 ≡ Ok true = ap Ok c.if-not-branch.false in
    let some : 0 < length c.next_line.new.line.items = omega (arith, c.in_ok-next_line.ensures.some line, c.next_line.new.line.ok.0) in
    let e = c.in_err-pass.field-0.0 in
    raised _ _ e c.from_residual-in_err-pass.ensures.1 (cut_within _ _ _ _ _ _ _ _ c.next_line.new.line.items c.without_end.result.now e came (c.in_ok-next_line.ensures.bytes line) (c.in_ok-next_line.ensures.rest line) some
    (c.without_end.ensures ∙ ap (strip_last 10) c.as_slice.ensures.value) c.in_err-pass.ensures.err)

pub returns-in_err-print_bad_line-clause-err : goal.returns-in_err-print_bad_line-clause-err
returns-in_err-print_bad_line-clause-err g c =
    let came = came_kept _ _ _ _ _ _ _ c.loop-number.invariant.came c.next_line.ensures.text in
    let line : Ok c.in_ok-next_line.field-0 ≡ Ok true = ap Ok c.if-not-branch.false in
    let some : 0 < length c.next_line.new.line.items = omega (arith, c.in_ok-next_line.ensures.some line, c.next_line.new.line.ok.0) in
    let e = c.in_err-print_bad_line.field-0.0 in
    raised _ _ e c.from_residual-in_err-print_bad_line.ensures.1 (cut_error _ _ _ _ _ _ _ _ _ c.next_line.new.line.items c.without_end.result.now e came (c.in_ok-next_line.ensures.bytes line) (c.in_ok-next_line.ensures.rest line) some
    (c.without_end.ensures ∙ ap (strip_last 10) c.as_slice.ensures.value) (λ p f. c.in_ok-pass.ensures.bad p f (ap Ok c.if-not-branch-2.true)) c.in_err-print_bad_line.ensures.err)

pub returns-then-not-branch-2-clause-ok : goal.returns-then-not-branch-2-clause-ok
returns-then-not-branch-2-clause-ok g c =
    let came = came_kept _ _ _ _ _ _ _ c.loop-number.invariant.came c.next_line.ensures.text in
    let line : Ok c.in_ok-next_line.field-0 ≡ Ok true = ap Ok c.if-not-branch.false in
    let some : 0 < length c.next_line.new.line.items = omega (arith, c.in_ok-next_line.ensures.some line, c.next_line.new.line.ok.0) in
    came_bad _ _ _ _ _ _ _ _ _ c.next_line.new.line.items c.without_end.result.now came (c.in_ok-next_line.ensures.bytes line) (c.in_ok-next_line.ensures.rest line) some
    (c.without_end.ensures ∙ ap (strip_last 10) c.as_slice.ensures.value) (λ p f. c.in_ok-pass.ensures.bad p f (ap Ok c.if-not-branch-2.true)) c.in_ok-print_bad_line.ensures.ok

pub returns-clause-err : goal.returns-clause-err
returns-clause-err g c = cut_here _ _ _ _ _ _ _ Read c.loop-number.invariant.came (Keeps-refl _)
