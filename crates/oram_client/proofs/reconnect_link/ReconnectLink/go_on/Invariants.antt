use Rattle.std.proofs.Common.{◌≡◌, ◌<◌, ◌≤◌, ◌++◌, None}
use Rattle.oram_rounds.specs.Batches.{texts}
use Rattle.oram_client.specs.Attempts.{attempt_of}
use Rattle.oram_client.specs.Reconnect.{dialer_kind}
use Rattle.oram_client.proofs.Tries.{Tried}
use Rattle.oram_client.proofs.reconnect_link.ReconnectLink.go_on.Given as goal

abbrev pub invariant-loop-trouble : goal.invariant-loop-trouble
invariant-loop-trouble g l = record {
  tried : Tried (dialer_kind g.D.Dial.opens g.D.Dial.fails g.D.Dial.pauses g.D.Dial.reads g.D.Dial.carries) l.fn.begin l.fn.self
      (texts l.fn.first ++ texts l.fn.last) (attempt_of l.fn.first_came) l.self (attempt_of l.came) l.wait.pause l.wait.left;
  reconnect_timeout : l.self.reconnect_timeout ≡ l.fn.self.reconnect_timeout;
  trouble : l.self.trouble ≡ None;
  some : 0 < l.wait.pause;
  most : l.wait.pause ≤ 5000;
}

abbrev pub decreases-loop-trouble : goal.decreases-loop-trouble
decreases-loop-trouble g l = l.wait.left
