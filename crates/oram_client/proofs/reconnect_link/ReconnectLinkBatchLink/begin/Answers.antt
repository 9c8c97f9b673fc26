use Rattle.std.proofs.Common.{◌++◌, inr, ◌∙◌}
use Rattle.oram_rounds.specs.Batches.{texts}
use Rattle.oram_client.specs.Dialer.{fault_of}
use Rattle.oram_client.specs.Reconnect.{ReconnectState, dialer_kind}
use Rattle.oram_client.proofs.Streaming.{begins, begins_not}
use Rattle.oram_client.proofs.reconnect_link.ReconnectLinkBatchLink.begin.Goals as goal

pub returns-in-Ok : goal.returns-in-Ok
returns-in-Ok g c =
    let k : ReconnectState g.row.D.Denot g.row.D-Line.Denot = record {
      dialer = c.self.inside.dialer;
      line = c.self.inside.line;
      reconnect_timeout = c.self.inside.reconnect_timeout;
      trouble = c.self.inside.trouble;
      awaited = c.self.inside.awaited;
    } in
    let taken = c.in-Some.ensures.taken in
    begins (dialer_kind g.D.Dial.opens g.D.Dial.fails g.D.Dial.pauses g.D.Dial.reads g.D.Dial.carries) g.D.Dial.learns g.D.Dial.streams
    c.args.self.now k c.keep_begun.new.self c.begin.new.self c.in-Some.line c.begin.new.line (texts c.args.first.now ++ texts c.args.last.now) c.in-Ok.progress
    taken.0 taken.1 (c.self.view_is ∙ taken.2) c.in-Ok.ensures c.keep_begun.ensures

pub returns-in-Err : goal.returns-in-Err
returns-in-Err g c =
    let k : ReconnectState g.row.D.Denot g.row.D-Line.Denot = record {
      dialer = c.self.inside.dialer;
      line = c.self.inside.line;
      reconnect_timeout = c.self.inside.reconnect_timeout;
      trouble = c.self.inside.trouble;
      awaited = c.self.inside.awaited;
    } in
    let taken = c.in-Some.ensures.taken in
    rw c.report_break.ensures (inr (
      fault_of c.in-Err.trouble,
      c.in-Err.ensures.0,
      begins_not (dialer_kind g.D.Dial.opens g.D.Dial.fails g.D.Dial.pauses g.D.Dial.reads g.D.Dial.carries) g.D.Dial.learns g.D.Dial.streams
          c.args.self.now k c.begin.new.self c.in-Some.line c.begin.new.line (texts c.args.first.now ++ texts c.args.last.now) c.in-Err.trouble c.in-Err.ensures.0
          taken.0 taken.1 (c.self.view_is ∙ taken.2) c.in-Err.ensures.1,
    ))
