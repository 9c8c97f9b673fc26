use Rattle.oram_rounds.specs.Batches.{batch_outcome_of, texts}
use Rattle.oram_client.specs.Reconnect.{dialer_kind}
use Rattle.oram_client.proofs.AskedAhead.{sent_now, taken_ends}
use Rattle.oram_client.proofs.reconnect_link.ReconnectLinkPipelinedLink.answers.Goals as goal

pub returns-in-Some : goal.returns-in-Some
returns-in-Some g c =
    let taken = c.in-Some.ensures.taken in
    taken_ends (dialer_kind g.D.Dial.opens g.D.Dial.fails g.D.Dial.pauses g.D.Dial.reads g.D.Dial.carries) g.D.Dial.asks g.D.Dial.learns
    c.args.self.now c.take_ahead.new.self c.end_batch.new.self (texts c.args.bodies.now) c.in-Some.ahead (batch_outcome_of c.end_batch.result)
    taken.0 c.in-Some.ensures.same c.end_batch.ensures.ends c.end_batch.ensures.reconnect_timeout

pub returns-in-None : goal.returns-in-None
returns-in-None g c =
    sent_now (dialer_kind g.D.Dial.opens g.D.Dial.fails g.D.Dial.pauses g.D.Dial.reads g.D.Dial.carries) g.D.Dial.asks g.D.Dial.learns
    c.args.self.now c.take_ahead.new.self c.pass.new.self (texts c.args.bodies.now) (batch_outcome_of c.pass.result)
    c.in-None.ensures.taken c.in-None.ensures.same c.pass.ensures
