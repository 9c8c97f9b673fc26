use Rattle.std.proofs.Common.{◌++◌, refl, ap, arith}
use Rattle.oram_rounds.specs.Batches.{batch_outcome_of, texts}
use Rattle.oram_client.specs.Attempts.{attempt_of}
use Rattle.oram_client.specs.Reconnect.{dialer_kind}
use Rattle.oram_client.proofs.Tries.{answered_behind, given_up_behind, rest_same, tried_again, tried_once}
use Rattle.oram_client.proofs.reconnect_link.ReconnectLink.go_on.Goals as goal

pub loop-trouble-init : goal.loop-trouble-init
loop-trouble-init g c = record {
  tried = tried_once (dialer_kind g.D.Dial.opens g.D.Dial.fails g.D.Dial.pauses g.D.Dial.reads g.D.Dial.carries) c.args.begin c.args.self.now
      (texts c.args.first.now ++ texts c.args.last.now) (attempt_of c.args.first_came) c.self.inside.reconnect_timeout (ap (λ v. v.reconnect_timeout) c.self.view_is);
  reconnect_timeout = refl;
  trouble = c.requires;
  some = omega arith;
  most = omega arith;
}

pub returns-in_default-clause-tried : goal.returns-in_default-clause-tried
returns-in_default-clause-tried g c =
    let before = c.loop-trouble.invariant in
    answered_behind (dialer_kind g.D.Dial.opens g.D.Dial.fails g.D.Dial.pauses g.D.Dial.reads g.D.Dial.carries) c.args.begin c.args.self.now
    (texts c.args.first.now ++ texts c.args.last.now) (attempt_of c.args.first_came) c.loop-trouble.self c.report_answer.new.self (attempt_of c.loop-trouble.came)
    c.loop-trouble.wait.pause c.loop-trouble.wait.left (batch_outcome_of c.link_outcome.result)
    before.tried before.trouble c.in_default.ensures c.report_answer.ensures c.link_outcome.ensures

pub returns-in-None-clause-tried : goal.returns-in-None-clause-tried
returns-in-None-clause-tried g c =
    let before = c.loop-trouble.invariant in
    given_up_behind (dialer_kind g.D.Dial.opens g.D.Dial.fails g.D.Dial.pauses g.D.Dial.reads g.D.Dial.carries) c.args.begin c.args.self.now
    (texts c.args.first.now ++ texts c.args.last.now) (attempt_of c.args.first_came) c.loop-trouble.self c.report_trouble.new.self c.wait.new.self c.give_up.new.self
    (attempt_of c.loop-trouble.came) c.loop-trouble.wait.pause c.loop-trouble.wait.left c.in-Some.trouble (batch_outcome_of c.link_outcome-in-None.result)
    before.tried before.reconnect_timeout c.in-Some.ensures c.report_trouble.ensures c.in-None.ensures.waits c.in-None.ensures.same
    c.give_up.ensures c.link_outcome-in-None.ensures

pub loop-trouble-preserved : goal.loop-trouble-preserved
loop-trouble-preserved g c =
    let before = c.loop-trouble.invariant in
    let tried = c.attempt-came.ensures.tried in
    let next = c.in-Some-wait.ensures.next in
    let kind = dialer_kind g.D.Dial.opens g.D.Dial.fails g.D.Dial.pauses g.D.Dial.reads g.D.Dial.carries in
    let rest = rest_same kind c.args.self.now.reconnect_timeout c.loop-trouble.self c.report_trouble.new.self c.wait.new.self c.attempt-came.new.self
    before.reconnect_timeout before.trouble c.report_trouble.ensures c.in-Some-wait.ensures.same c.attempt-came.ensures.same in
    record {
      tried = tried_again kind c.args.begin c.args.self.now (texts c.args.first.now ++ texts c.args.last.now) (attempt_of c.args.first_came)
          c.loop-trouble.self c.report_trouble.new.self c.wait.new.self c.attempt-came.new.self (attempt_of c.loop-trouble.came) (attempt_of c.attempt-came.result)
          c.loop-trouble.wait.pause c.loop-trouble.wait.left c.in-Some-wait.next.pause c.in-Some-wait.next.left c.in-Some.trouble tried.0
          before.tried before.reconnect_timeout c.in-Some.ensures c.report_trouble.ensures c.in-Some-wait.ensures.waits c.in-Some-wait.ensures.same tried.1;
      reconnect_timeout = rest.0;
      trouble = rest.1;
      some = next.1;
      most = next.2;
    }
