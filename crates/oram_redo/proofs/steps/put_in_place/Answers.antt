use Rattle.oram_redo.proofs.Outcomes.{after_then, failed_last, has_failed}
use Rattle.std.proofs.Common.{◌≡◌, Result, Ok, Err, OnOk, is_err, false, [], sym, ◌∙◌, refl}
use Rattle.oram_redo.specs.Batch.{patches_of}
use Rattle.oram_redo.specs.declared.batch.Patch.{Patch}
use Rattle.oram_redo.proofs.Batches.{spares_each}
use Rattle.oram_redo.proofs.Smears.{smears_more, smears_on, records_more}
use Rattle.oram_redo.proofs.steps.put_in_place.Goals as goal

abbrev none : Patch
none = record { at = 0; bytes = record { ref_ptr = (0, 0); now = [] } }

ok_has : {T E : Type 0} (r : Result T E) (P : Type 0) → is_err r ≡ false → OnOk r P → P
ok_has (Ok x) P well has = has
ok_has (Err e) P well has = cc

pub returns-then-is_err-clause-crash : goal.returns-then-is_err-clause-crash
returns-then-is_err-clause-crash g c =
    smears_more g.F.FilePair.model (patches_of c.args.batch.now) c.args.files.now c.loop-patch.files c.write_at.new.self _ _
    c.loop-patch.invariant.crash c.write_at.ensures.crash (λ i spared. spares_each c.args.batch.now c.loop-patch.patch-index none i c.loop-patch-test.true spared)

pub returns-then-is_err-clause-moments : goal.returns-then-is_err-clause-moments
returns-then-is_err-clause-moments g c =
    smears_on g.F.FilePair.model (patches_of c.args.batch.now) c.args.files.now c.loop-patch.files c.write_at.new.self
    c.loop-patch.invariant.moments c.write_at.ensures.time (returns-then-is_err-clause-crash g c)

pub loop-patch-preserved : goal.loop-patch-preserved
loop-patch-preserved g c =
    let now = smears_more g.F.FilePair.model (patches_of c.args.batch.now) c.args.files.now c.loop-patch.files c.write_at.new.self _ _
    c.loop-patch.invariant.crash c.write_at.ensures.crash (λ i spared. spares_each c.args.batch.now c.loop-patch.patch-index none i c.loop-patch-test.true spared) in
    record {
      records = records_more c.args.batch.now c.loop-patch.patch-index none (g.F.FilePair.model.seen c.args.files.now) (g.F.FilePair.model.seen c.loop-patch.files) (g.F.FilePair.model.seen c.write_at.new.self)
          c.loop-patch-test.true c.loop-patch.invariant.records (ok_has c.write_at.result _ (sym c.if-is_err.ensures.value) c.write_at.ensures.written);
      log = λ i. c.write_at.ensures.torn.other i ∙ c.loop-patch.invariant.log i;
      crash = now;
      moments = smears_on g.F.FilePair.model (patches_of c.args.batch.now) c.args.files.now c.loop-patch.files c.write_at.new.self
          c.loop-patch.invariant.moments c.write_at.ensures.time now;
      after = record {
        honest = λ now. c.loop-patch.invariant.after.honest (c.write_at.ensures.after.honest now);
        failed = λ n had. c.write_at.ensures.after.failed n (c.loop-patch.invariant.after.failed n had);
        short = λ n had. c.write_at.ensures.after.short n (c.loop-patch.invariant.after.short n had);
      };
    }

pub returns-then-is_err-clause-log : goal.returns-then-is_err-clause-log
returns-then-is_err-clause-log g c i = c.write_at.ensures.torn.other i ∙ c.loop-patch.invariant.log i

pub returns-then-is_err-clause-failed : goal.returns-then-is_err-clause-failed
returns-then-is_err-clause-failed g c = (refl, failed_last g.F.FilePair.model c.args.files.now c.loop-patch.files c.write_at.new.self c.loop-patch.invariant.after (has_failed g.F.FilePair.model c.write_at.result c.loop-patch.files c.write_at.new.self (sym c.if-is_err.ensures.value) c.write_at.ensures.errors c.write_at.ensures.cause))

pub returns-then-is_err-clause-after : goal.returns-then-is_err-clause-after
returns-then-is_err-clause-after g c = after_then g.F.FilePair.model c.args.files.now c.loop-patch.files c.write_at.new.self c.loop-patch.invariant.after c.write_at.ensures.after

pub returns-clause-log : goal.returns-clause-log
returns-clause-log g c = c.loop-patch.invariant.log

pub returns-clause-crash : goal.returns-clause-crash
returns-clause-crash g c = c.loop-patch.invariant.crash

pub returns-clause-moments : goal.returns-clause-moments
returns-clause-moments g c = c.loop-patch.invariant.moments

pub returns-clause-after : goal.returns-clause-after
returns-clause-after g c = c.loop-patch.invariant.after
