use Rattle.std.proofs.Common.{refl, sym, subst, ◌∙◌}
use Rattle.oram_store.specs.Groups.{IsOfTrees}
use Rattle.oram_store.proofs.Crashes.{calls_residual, runs_none, runs_then}
use Rattle.oram_store.proofs.Sound.{leaves_then, reads_leave, reads_nothing}
use Rattle.oram_store.proofs.groups.write_missing_of_group.Goals as goal

pub loop-change-init : goal.loop-change-init
loop-change-init g c = record {
  runs = runs_none g.F.FilePair.model c.args.file.now;
  same = refl;
  kept = λ trees of sound honest. reads_leave g.F.FilePair.model trees c.args.file.now c.args.file.now sound
      (reads_nothing g.F.FilePair.model c.args.file.now (g.met.F.FilePair.only_now c.args.file.now.files));
}

pub loop-change-preserved : goal.loop-change-preserved
loop-change-preserved g c =
    let mid = c.loop-change.file in
    let call = c.write_missing_of_change.ensures in
    record {
      runs = runs_then g.F.FilePair.model c.args.file.now mid c.write_missing_of_change.new.file c.loop-change.invariant.runs call.calls.runs;
      same = c.in_ok-write_missing_of_change.ensures.calls.goes_on ∙ c.loop-change.invariant.same;
      kept = λ trees of sound honest.
          let there : IsOfTrees trees c.change-item.result =
          subst (IsOfTrees trees) (sym c.change-item.is) (of c.loop-change.change-index c.change-item.result c.loop-change-test.true) in
          leaves_then g.F.FilePair.model trees c.args.file.now mid c.write_missing_of_change.new.file
          (c.loop-change.invariant.kept trees of sound (call.calls.runs.after.honest honest))
          (λ mid_sound. call.kept trees there mid_sound honest) call.calls.runs.stays (g.met.F.FilePair.counts_now mid.files) (g.met.F.FilePair.whole mid.files);
    }

pub returns-in_err-write_missing_of_change-clause-kept : goal.returns-in_err-write_missing_of_change-clause-kept
returns-in_err-write_missing_of_change-clause-kept g c trees of sound honest =
    let mid = c.loop-change.file in
    let call = c.write_missing_of_change.ensures in
    let there : IsOfTrees trees c.change-item.result =
    subst (IsOfTrees trees) (sym c.change-item.is) (of c.loop-change.change-index c.change-item.result c.loop-change-test.true) in
    leaves_then g.F.FilePair.model trees c.args.file.now mid c.write_missing_of_change.new.file
    (c.loop-change.invariant.kept trees of sound (call.calls.runs.after.honest honest))
    (λ mid_sound. call.kept trees there mid_sound honest) call.calls.runs.stays (g.met.F.FilePair.counts_now mid.files) (g.met.F.FilePair.whole mid.files)

pub returns-in_err-write_missing_of_change-clause-calls : goal.returns-in_err-write_missing_of_change-clause-calls
returns-in_err-write_missing_of_change-clause-calls g c =
    calls_residual g.F.FilePair.model c.from_residual.result c.in_err-write_missing_of_change.field-0.0 c.args.file.now c.loop-change.file c.write_missing_of_change.new.file
    c.from_residual.ensures.1 c.loop-change.invariant.runs c.loop-change.invariant.same c.in_err-write_missing_of_change.ensures.calls
