use Rattle.std.proofs.Common.{◌++◌, ap}
use Rattle.oram_rounds.specs.Batches.{batch_outcome_of, texts}
use Rattle.oram_client.specs.Attempts.{attempt_of}
use Rattle.oram_client.specs.Reconnect.{dialer_kind}
use Rattle.oram_client.proofs.Tries.{all_tries}
use Rattle.oram_client.proofs.reconnect_link.ReconnectLink.make_tries.Goals as goal

pub returns-clause-tried : goal.returns-clause-tried
returns-clause-tried g c =
    let tried = c.attempt-came.ensures.tried in
    all_tries (dialer_kind g.D.Dial.opens g.D.Dial.fails g.D.Dial.pauses g.D.Dial.reads g.D.Dial.carries) c.now-begin.result
    c.args.self.now c.now-begin.new.self c.attempt-came.new.self c.go_on.new.self (texts c.args.first.now ++ texts c.args.last.now)
    (attempt_of c.attempt-came.result) (batch_outcome_of c.go_on.result) c.attempt.inside.reconnect_timeout tried.0
    c.now-begin.ensures.read c.now-begin.ensures.same (ap (λ v. v.reconnect_timeout) c.attempt.view_is) tried.1 c.attempt-came.ensures.same c.go_on.ensures.tried
