use Rattle.oram_rounds.specs.Batches.{batch_outcome_of, texts}
use Rattle.oram_client.specs.Attempts.{attempt_of}
use Rattle.oram_client.specs.Reconnect.{dialer_kind}
use Rattle.oram_client.proofs.AskedAhead.{awaited_ends}
use Rattle.oram_client.proofs.reconnect_link.ReconnectLink.end_batch.Goals as goal

pub returns-clause-ends : goal.returns-clause-ends
returns-clause-ends g c =
    awaited_ends (dialer_kind g.D.Dial.opens g.D.Dial.fails g.D.Dial.pauses g.D.Dial.reads g.D.Dial.carries) g.D.Dial.asks
    c.args.self.now c.end_try-came.new.self c.go_on.new.self (texts c.args.bodies.now) c.args.ahead (attempt_of c.end_try-came.result) (batch_outcome_of c.go_on.result)
    c.end_try-came.ensures.tried c.end_try-came.ensures.same c.go_on.ensures.tried
