use Rattle.std.proofs.Common.{refl, ◌∙◌}
use Rattle.oram_store.proofs.Crashes.{calls_residual, runs_none, runs_then}
use Rattle.oram_store.proofs.Sound.{leaves_then, reads_leave, reads_nothing}
use Rattle.oram_store.proofs.cells.write_missing.Goals as goal

pub loop-index-init : goal.loop-index-init
loop-index-init g c = record {
  runs = runs_none g.F.FilePair.model c.args.file.now;
  same = refl;
  kept = λ trees number there sound honest. reads_leave g.F.FilePair.model trees c.args.file.now c.args.file.now sound
      (reads_nothing g.F.FilePair.model c.args.file.now (g.met.F.FilePair.only_now c.args.file.now.files));
}

pub loop-index-preserved : goal.loop-index-preserved
loop-index-preserved g c =
    let mid = c.loop-index.file in
    let call = c.write_if_missing.ensures in
    record {
      runs = runs_then g.F.FilePair.model c.args.file.now mid c.write_if_missing.new.file c.loop-index.invariant.runs call.calls.runs;
      same = c.in_ok-write_if_missing.ensures.calls.goes_on ∙ c.loop-index.invariant.same;
      kept = λ trees number there sound honest.
          leaves_then g.F.FilePair.model trees c.args.file.now mid c.write_if_missing.new.file
          (c.loop-index.invariant.kept trees number there sound (call.calls.runs.after.honest honest))
          (λ mid_sound. call.kept trees number there mid_sound honest) call.calls.runs.stays (g.met.F.FilePair.counts_now mid.files) (g.met.F.FilePair.whole mid.files);
    }

pub returns-in_err-write_if_missing-clause-kept : goal.returns-in_err-write_if_missing-clause-kept
returns-in_err-write_if_missing-clause-kept g c trees number there sound honest =
    let mid = c.loop-index.file in
    let call = c.write_if_missing.ensures in
    leaves_then g.F.FilePair.model trees c.args.file.now mid c.write_if_missing.new.file
    (c.loop-index.invariant.kept trees number there sound (call.calls.runs.after.honest honest))
    (λ mid_sound. call.kept trees number there mid_sound honest) call.calls.runs.stays (g.met.F.FilePair.counts_now mid.files) (g.met.F.FilePair.whole mid.files)

pub returns-in_err-write_if_missing-clause-calls : goal.returns-in_err-write_if_missing-clause-calls
returns-in_err-write_if_missing-clause-calls g c =
    calls_residual g.F.FilePair.model c.from_residual.result c.in_err-write_if_missing.field-0.0 c.args.file.now c.loop-index.file c.write_if_missing.new.file
    c.from_residual.ensures.1 c.loop-index.invariant.runs c.loop-index.invariant.same c.in_err-write_if_missing.ensures.calls
