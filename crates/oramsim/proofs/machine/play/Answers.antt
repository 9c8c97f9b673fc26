use Rattle.std.proofs.Common.{subst, ◌∙◌}
use Rattle.std.specs.Io.KnownBytes.{Appends}
use Rattle.oram_semantics.specs.Run.{shown_by}
use Rattle.oramsim.proofs.Whole.{popped}
use Rattle.oramsim.proofs.machine.play.Goals as goal

pub returns-clause-ok : goal.returns-clause-ok
returns-clause-ok g c = (
  shown_by c.in_ok-reaction.reaction,
  record { steps = c.in_ok-reaction.ensures.promise; newest = popped _ _ _ _ _ c.in_ok-reaction.reaction.sends.ok.0 c.pop.ensures.items c.pop.ensures.cases },
  subst (Appends (g.W.Write.contents c.args.writer.now) (g.W.Write.contents c.put.new.writer)) (c.as_bytes.ensures.value ∙ c.in_ok-text.ensures) c.in_ok-put.ensures.ok,
)
