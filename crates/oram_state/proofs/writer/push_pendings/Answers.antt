use Rattle.std.proofs.Common.{get_or, subst, arith}
use Rattle.std.proofs.lemmas.Grind.{common_steps}
use Rattle.std.proofs.lemmas.List.Elements.{All-more}
use Rattle.oram_state.specs.WellSized.{CommandFits}
use Rattle.oram_state.proofs.writer.push_pendings.Goals as goal

pub loop-pending-preserved : goal.loop-pending-preserved
loop-pending-preserved c =
    let fit : CommandFits (get_or c.args.waiting.now c.loop-pending.pending-index c.pending-item.result) = subst CommandFits c.pending-item.is c.in_ok-push_pending.ensures.fit in
    record {
      spelled = grind (arith, common_steps);
      fit = All-more CommandFits c.args.waiting.now c.loop-pending.pending-index c.pending-item.result c.loop-pending-test.true c.loop-pending.invariant.fit fit;
    }
