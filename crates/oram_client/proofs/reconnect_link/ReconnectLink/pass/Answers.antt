use Rattle.std.proofs.Common.{◌++◌, Option, None, sym, ap, subst}
use Rattle.std.specs.Prelude.{MatchOption}
use Rattle.oram_rounds.specs.Batches.{batch_outcome_of, texts}
use Rattle.oram_client.specs.Reconnect.{IsGivenUp, MakesTries, ReconnectBatch, ReconnectState, dialer_kind}
use Rattle.oram_client.specs.declared.dialer.Trouble.{Trouble}
use Rattle.oram_client.proofs.AskedAhead.{same_batch}
use Rattle.oram_client.proofs.reconnect_link.ReconnectLink.pass.Goals as goal

pub returns-in-None : goal.returns-in-None
returns-in-None g c =
    let kind = dialer_kind g.D.Dial.opens g.D.Dial.fails g.D.Dial.pauses g.D.Dial.reads g.D.Dial.carries in
    let k : ReconnectState g.row.D.Denot g.row.D-Line.Denot = record {
      dialer = c.self.inside.dialer;
      line = c.self.inside.line;
      reconnect_timeout = c.self.inside.reconnect_timeout;
      trouble = c.self.inside.trouble;
      awaited = None;
    } in
    let bodies = texts c.args.first.now ++ texts c.args.last.now in
    let o = batch_outcome_of c.make_tries.result in
    let m = c.make_tries.new.self in
    let made = c.make_tries.ensures.tried in
    let batch : ReconnectBatch kind k bodies o made.0 m = record {
      passed = subst (λ (t : Option Trouble). MatchOption t (MakesTries kind k bodies o made.0 m) (λ why. IsGivenUp kind k o made.0 m)) (sym c.in-None.is) made.1;
      reconnect_timeout = c.make_tries.ensures.reconnect_timeout;
    } in (
      made.0,
      same_batch kind c.args.self.now k m bodies o made.0 (ap (λ v. v.dialer) c.self.view_is) (ap (λ v. v.line) c.self.view_is)
          (ap (λ v. v.reconnect_timeout) c.self.view_is) (ap (λ v. v.trouble) c.self.view_is) batch,
    )
