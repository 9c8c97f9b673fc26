use Rattle.std.proofs.Common.{refl, ◌+◌}
use Rattle.oram_export.specs.Stages.{stage_of}
use Rattle.oram_export.proofs.Staging.{further_again, one_row_more}
use Rattle.oram_export.proofs.progress.take_rows.Goals as goal

pub loop-preserved : goal.loop-preserved
loop-preserved g c = record {
  further = further_again c.args.progress.now c.loop.progress c.take_row.new.progress c.loop.counter 1 (c.loop.counter + 1) refl c.loop.invariant.further c.in_ok-rest.ensures.next;
  taken = one_row_more (g.V.RecordVisitor.sees c.args.visitor.now) c.args.record_len (stage_of c.args.progress.now c.args.target.now) (stage_of c.loop.progress c.loop.target)
      (stage_of c.take_row.new.progress c.take_row.new.target) c.args.text.now c.loop.rest.now c.in_ok-rest.rest.now c.loop.invariant.taken c.in_ok-rest.ensures.ok;
}
