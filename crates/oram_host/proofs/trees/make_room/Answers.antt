use Rattle.std.proofs.Common.{◌∙◌, below_more}
use Rattle.oram_host.proofs.trees.make_room.Goals as goal

pub returns-in_err-make_room_at-clause-whole : goal.returns-in_err-make_room_at-clause-whole
returns-in_err-make_room_at-clause-whole c = λ record_len h. c.make_room_at.ensures.whole record_len (c.loop-level.invariant.whole record_len h)

pub loop-level-preserved : goal.loop-level-preserved
loop-level-preserved c = record {
  same = c.make_room_at.ensures.same ∙ c.loop-level.invariant.same;
  room = below_more _ _ (λ k h. c.make_room_at.ensures.kept _ (c.loop-level.invariant.room k h)) (rw (← c.node_at.ensures.place) (c.in_ok-make_room_at.ensures.room));
  ordered = c.make_room_at.ensures.ordered;
  nodes = λ h. c.make_room_at.ensures.nodes c.args.depth c.node_at.ensures.within (c.loop-level.invariant.nodes h);
  whole = λ record_len h. c.make_room_at.ensures.whole record_len (c.loop-level.invariant.whole record_len h);
}
