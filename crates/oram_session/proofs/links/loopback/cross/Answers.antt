use Rattle.oram_session.proofs.Looped.{returned}
use Rattle.oram_session.proofs.links.loopback.cross.Goals as goal
use Rattle.std.proofs.Common.{◌∙◌}

pub returns-clause-ok : goal.returns-clause-ok
returns-clause-ok g c =
    let a = c.in_ok-answer.ensures.ok in
    returned g.S.Read.remaining g.S.Write.contents c.give_back.result _ _ _ (c.ask.new.near, c.ask.new.far) (c.give_back.new.near, c.give_back.new.far) _ c.deref.result.now a.0
    a.2 (c.deref.ensures.value ∙ a.1) c.give_back.ensures.fits c.give_back.ensures.wrote c.give_back.ensures.read
