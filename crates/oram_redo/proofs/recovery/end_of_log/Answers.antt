use Rattle.oram_redo.specs.declared.faults.RedoError.TheVariants.{Damaged, Failed}
use Rattle.oram_redo.proofs.Outcomes.{after_then, failed_last, if_err_passed, if_of_passed, if_ok_none, no_error}
use Rattle.std.proofs.Common.{◌++◌, ◌∷◌, [], IfSome, subst}
use Rattle.std.proofs.lemmas.Result.{err_from_is_err_and}
use Rattle.oram_redo.specs.Recovery.{IsEntryAt}
use Rattle.oram_redo.specs.declared.file_pair.FileKind.TheVariants.{Log}
use Rattle.oram_redo.proofs.Moments.{nothing_more_written}
use Rattle.oram_redo.proofs.LogReads.{patch_at, opens_more, opens_damaged, entry_along, damaged_along}
use Rattle.oram_redo.proofs.recovery.end_of_log.Goals as goal

pub returns-in_err-found-clause-damaged : goal.returns-in_err-found-clause-damaged
returns-in_err-found-clause-damaged g c honest is patches log =
    let p = err_from_is_err_and c.from_residual.result c.from_residual.ensures.1 in
    let bad = c.in_err-found.ensures.damaged honest (cc (p.1, p.2, is)) in
    let so_far = c.loop-found.invariant.so_far (c.find_entry.ensures.after.honest honest) in
    opens_damaged c.args.bounds _ so_far.0 patches c.loop-found.at so_far.1 (damaged_along c.args.bounds _ _ c.loop-found.at (λ i. c.loop-found.invariant.nothing_written.seen_same Log i) bad) log

pub loop-found-preserved : goal.loop-found-preserved
loop-found-preserved g c =
    let log = g.F.FilePair.model.seen c.args.files.now Log in
    record {
      nothing_written = nothing_more_written g.F.FilePair.model c.args.files.now c.loop-found.files c.find_entry.new.files c.loop-found.invariant.nothing_written c.find_entry.ensures.nothing_written;
      so_far = λ honest.
          let so_far = c.loop-found.invariant.so_far (c.find_entry.ensures.after.honest honest) in
          let found = subst (λ o. IfSome o (IsEntryAt c.args.bounds (g.F.FilePair.model.seen c.loop-found.files Log) c.loop-found.at)) c.in-Some.is (c.in_ok-found.ensures.found honest) in
          let one = entry_along c.args.bounds log _ c.loop-found.at c.in-Some.found (λ i. c.loop-found.invariant.nothing_written.seen_same Log i) found in
          (so_far.0 ++ patch_at c.args.bounds log c.loop-found.at c.in-Some.found ∷ [], opens_more c.args.bounds log so_far.0 c.loop-found.at c.in-Some.found so_far.1 one);
      after = record {
        honest = λ now. c.loop-found.invariant.after.honest (c.find_entry.ensures.after.honest now);
        failed = λ n had. c.find_entry.ensures.after.failed n (c.loop-found.invariant.after.failed n had);
        short = λ n had. c.find_entry.ensures.after.short n (c.loop-found.invariant.after.short n had);
      };
    }

pub returns-in_err-found-clause-nothing_written : goal.returns-in_err-found-clause-nothing_written
returns-in_err-found-clause-nothing_written g c = nothing_more_written g.F.FilePair.model c.args.files.now c.loop-found.files c.find_entry.new.files c.loop-found.invariant.nothing_written c.find_entry.ensures.nothing_written

pub returns-in_err-found-clause-end : goal.returns-in_err-found-clause-end
returns-in_err-found-clause-end g c = if_ok_none c.from_residual.result _ c.from_residual.ensures.0

pub returns-in_err-found-clause-failed : goal.returns-in_err-found-clause-failed
returns-in_err-found-clause-failed g c is = if_of_passed c.from_residual.result c.in_err-found.field-0.0 Failed _ c.from_residual.ensures.1 (λ of. failed_last g.F.FilePair.model c.args.files.now c.loop-found.files c.find_entry.new.files c.loop-found.invariant.after (c.in_err-found.ensures.failed of)) is

pub returns-in_err-found-clause-after : goal.returns-in_err-found-clause-after
returns-in_err-found-clause-after g c = after_then g.F.FilePair.model c.args.files.now c.loop-found.files c.find_entry.new.files c.loop-found.invariant.after c.find_entry.ensures.after

pub returns-in_err-found-clause-errors : goal.returns-in_err-found-clause-errors
returns-in_err-found-clause-errors g c = if_err_passed c.from_residual.result c.in_err-found.field-0.0 _ c.from_residual.ensures.1 c.in_err-found.ensures.errors

pub returns-clause-nothing_written : goal.returns-clause-nothing_written
returns-clause-nothing_written g c = nothing_more_written g.F.FilePair.model c.args.files.now c.loop-found.files c.find_entry.new.files c.loop-found.invariant.nothing_written c.find_entry.ensures.nothing_written

pub returns-clause-damaged : goal.returns-clause-damaged
returns-clause-damaged g c honest is patches log = no_error _ Damaged ⊥ is

pub returns-clause-failed : goal.returns-clause-failed
returns-clause-failed g c is = no_error _ Failed _ is

pub returns-clause-after : goal.returns-clause-after
returns-clause-after g c = after_then g.F.FilePair.model c.args.files.now c.loop-found.files c.find_entry.new.files c.loop-found.invariant.after c.find_entry.ensures.after

pub returns-clause-errors : goal.returns-clause-errors
returns-clause-errors g c = tt
