use Rattle.std.proofs.Common.{[], ◌∙◌}
use Rattle.oram_kept.proofs.Opened.{comes_then}
use Rattle.oram_redo.proofs.Smears.{records_more}
use Rattle.oram_redo.specs.declared.batch.Patch.{Patch}
use Rattle.oram_kept.proofs.kept_text.write_all.Goals as goal

abbrev none : Patch
none = record { at = 0; bytes = record { ref_ptr = (0, 0); now = [] } }

pub loop-patch-preserved : goal.loop-patch-preserved
loop-patch-preserved g c =
    let model = g.F.FilePair.model in (
      records_more c.args.batch.now c.loop-patch.patch-index none (model.seen c.args.files.now) (model.seen c.loop-patch.files) (model.seen c.write_at.new.self)
          c.loop-patch-test.true c.loop-patch.invariant.0 c.in_ok-write_at.ensures.written,
      (λ i. c.write_at.ensures.torn.other i ∙ c.loop-patch.invariant.1 i),
      comes_then model c.args.files.now c.loop-patch.files c.write_at.new.self c.loop-patch.invariant.2 c.write_at.ensures.after,
    )
