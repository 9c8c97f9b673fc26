use Rattle.std.proofs.Common.{List, Err, ◌∙◌, sym, subst}
use Rattle.oram_session.specs.declared.link.LinkFault.{LinkFault}
use Rattle.oram_link_laws.specs.Runs.{Exchange}
use Rattle.oram_rounds.specs.Batches.{BreaksOff}
use Rattle.oram_client.specs.Reconnect.{LinkBatch, ReconnectState, dialer_kind}
use Rattle.oram_client.proofs.Streaming.{breaks, gives}
use Rattle.oram_client.proofs.reconnect_link.ReconnectLinkBatchLink.next_answer.Goals as goal

pub returns-in-Ok : goal.returns-in-Ok
returns-in-Ok g c =
    let n : ReconnectState g.row.D.Denot g.row.D-Line.Denot = record {
      dialer = c.self.inside.dialer;
      line = c.self.inside.line;
      reconnect_timeout = c.self.inside.reconnect_timeout;
      trouble = c.self.inside.trouble;
      awaited = c.self.inside.awaited;
    } in
    gives (dialer_kind g.D.Dial.opens g.D.Dial.fails g.D.Dial.pauses g.D.Dial.reads g.D.Dial.carries) g.D.Dial.learns g.D.Dial.streams g.D.Dial.counts_answers
    c.args.self.now n c.in-Some.batch.line c.in-Some.batch.progress c.in-Some.ensures.taken (c.self.view_is ∙ c.take_begun.ensures.same)
    c.args.body.now c.next_answer.new.self c.next_answer.new.line c.next_answer.new.progress c.keep_begun.new.self c.in-Ok.answer c.in-Ok.ensures c.keep_begun.ensures

pub returns-in-Err : goal.returns-in-Err
returns-in-Err g c =
    let n : ReconnectState g.row.D.Denot g.row.D-Line.Denot = record {
      dialer = c.self.inside.dialer;
      line = c.self.inside.line;
      reconnect_timeout = c.self.inside.reconnect_timeout;
      trouble = c.self.inside.trouble;
      awaited = c.self.inside.awaited;
    } in
    let kind = dialer_kind g.D.Dial.opens g.D.Dial.fails g.D.Dial.pauses g.D.Dial.reads g.D.Dial.carries in
    rw c.report_break.ensures (λ l bodies answers rest s next.
    subst (λ (fault : LinkFault). (exchanges : List Exchange) × LinkBatch kind g.D.Dial.learns l bodies (Err fault) exchanges (record n { dialer = c.next_answer.new.self }) × BreaksOff bodies answers exchanges)
    (sym c.fault.ensures)
    (breaks kind g.D.Dial.learns g.D.Dial.streams g.D.Dial.counts_answers
    c.args.self.now n c.in-Some.batch.line c.in-Some.batch.progress c.in-Some.ensures.taken (c.self.view_is ∙ c.take_begun.ensures.same)
    c.args.body.now c.next_answer.new.self c.next_answer.new.line c.next_answer.new.progress c.in-Err.trouble c.in-Err.ensures l bodies answers rest s next))
