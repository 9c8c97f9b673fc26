use Rattle.std.proofs.Common.{refl, ◌∙◌}
use Rattle.std.proofs.KnownBytes.{Keeps-refl, Keeps-trans}
use Rattle.oram_client.proofs.Writing.{writes_both, writes_none}
use Rattle.oram_client.proofs.due_batch.write_steps.Goals as goal

pub loop-init : goal.loop-init
loop-init g c = record {
  wrote = writes_none (g.W.Write.contents c.args.writer.now) (g.W.Write.contents c.args.writer.now) c.args.due.now.unsent (Keeps-refl (g.W.Write.contents c.args.writer.now));
  left = refl;
  unread = Keeps-refl (g.R.Read.remaining c.args.reader.now);
}

pub loop-preserved : goal.loop-preserved
loop-preserved g c =
    let inv = c.loop.invariant in
    record {
      wrote = writes_both _ _ _ _ _ _ inv.wrote c.write_step.ensures.wrote;
      left = c.write_step.ensures.left ∙ inv.left;
      unread = Keeps-trans _ _ _ inv.unread c.write_step.ensures.unread;
    }

pub returns-in_err-write_step-clause-wrote : goal.returns-in_err-write_step-clause-wrote
returns-in_err-write_step-clause-wrote g c = writes_both _ _ _ _ _ _ c.loop.invariant.wrote c.write_step.ensures.wrote
