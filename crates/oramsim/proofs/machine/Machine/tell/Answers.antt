use Rattle.std.proofs.Common.{ap, ◌∙◌, refl}
use Rattle.oramsim.specs.Script.{left_at, newest_of}
use Rattle.oramsim.proofs.Faithful.{stays_faithful}
use Rattle.oramsim.proofs.GivenUp.{raised, told_cut}
use Rattle.oramsim.proofs.Turns.{goes_on, outstanding_is}
use Rattle.oramsim.proofs.Whole.{whole_after, fewer}
use Rattle.oramsim.proofs.machine.Machine.tell.Goals as goal

pub returns-clause-whole : goal.returns-clause-whole
returns-clause-whole g c =
    let p = c.in_ok-sent.ensures.ok in
    let out = outstanding_is p.0.sends _ _ _ c.or.ensures p.1.newest ∙ ap (newest_of p.0.sends) (c.left_at-left.ensures ∙ ap (left_at c.args.event.now) c.take.ensures.value) in
    rw (out, c.play.ensures.device) (c.requires.0, whole_after c.args.self.now.core.device c.args.self.now.core.state c.play.new.core.state c.args.event.now p.0 c.args.self.now.outstanding c.requires.1 p.1.steps)

pub returns-clause-left : goal.returns-clause-left
returns-clause-left g c = λ h some.
    let p = c.in_ok-sent.ensures.ok in
    let out = outstanding_is p.0.sends _ _ _ c.or.ensures p.1.newest ∙ ap (newest_of p.0.sends) (c.left_at-left.ensures ∙ ap (left_at c.args.event.now) c.take.ensures.value) in
    rw (out, c.play.ensures.device) (fewer c.args.self.now.core.device c.args.self.now.core.state c.play.new.core.state c.args.event.now p.0 c.args.self.now.outstanding c.requires.1 p.1.steps h some)

pub returns-clause-ok : goal.returns-clause-ok
returns-clause-ok g c = λ r f.
    let p = c.in_ok-sent.ensures.ok in
    let out = outstanding_is p.0.sends _ _ _ c.or.ensures p.1.newest ∙ ap (newest_of p.0.sends) (c.left_at-left.ensures ∙ ap (left_at c.args.event.now) c.take.ensures.value) in
    (p.0, goes_on r c.args.self.now _ c.args.event.now p.0 _ _ _ f p.1 c.play.ensures.device out refl refl p.2, stays_faithful r c.args.self.now c.args.event.now p.0 _ _ f p.1)

pub returns-in_err-sent-clause-err : goal.returns-in_err-sent-clause-err
returns-in_err-sent-clause-err g c = λ r f.
    raised _ _ c.in_err-sent.field-0.0 c.from_residual.ensures.1 (told_cut r c.args.self.now c.in_err-sent.field-0.0 c.args.event.now c.play.new.core.state _ _ f c.in_err-sent.ensures.err)
