use Rattle.oram_semantics.specs.Run.{shown_by}
use Rattle.oram_core.specs.Core.{scheme_of}
use Rattle.oram_core.specs.PlainSteps.{done}
use Rattle.oram_semantics.specs.declared.events.Reaction.{Reaction}
use Rattle.oram_session.specs.CoreWork.{IsBegun}
use Rattle.oram_session.proofs.CoreSteps.{begun_is}
use Rattle.oram_session.proofs.Turned.{IfOk-weaker}
use Rattle.oram_session.proofs.turns.submit.Goals as goal

pub returns-clause-begun : goal.returns-clause-begun
returns-clause-begun g c =
    let v = scheme_of g.S.Sealer.cipher c.args.core.now in
    IfOk-weaker c.step.result _ (λ (r : Reaction). IsBegun c.args.core.now.state r.note (done r c.step.new.self.state))
    (λ r h. begun_is v c.args.core.now.state c.step.new.self.state c.args.session c.args.command _ (shown_by r) c.device.ensures.sound c.requires h) c.step.ensures.promise
