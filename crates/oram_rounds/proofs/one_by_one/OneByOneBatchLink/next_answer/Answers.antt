use Rattle.oram_session.specs.Outcome.{outcome_of}
use Rattle.oram_rounds.proofs.NextAnswers.{gives_next}
use Rattle.oram_rounds.proofs.one_by_one.OneByOneBatchLink.next_answer.Goals as goal

pub returns : goal.returns
returns g c = λ l bodies answers rest h next.
    gives_next g.L.Link.calls l.link c.args.self.now.link c.call.new.self bodies answers rest c.args.body.now h.0 next (outcome_of c.call.result) c.call.ensures
