use Rattle.std.proofs.Common.{◌≡◌, ◌++◌, List, [], Err, true, refl, sym, ap, ◌∙◌, subst}
use Rattle.oram_link_laws.specs.Runs.{Exchange}
use Rattle.oram_rounds.specs.Batches.{texts}
use Rattle.oram_client.specs.StreamBatches.{Connection, StreamBatch, Streams}
use Rattle.oram_client.proofs.TakenAnswers.{begun_over, unsent_over}
use Rattle.oram_client.proofs.stream_batches.StreamBatches.begin_between.Goals as goal

pub returns-in-Ok-clause-ok : goal.returns-in-Ok-clause-ok
returns-in-Ok-clause-ok g c =
    let l : Connection g.row.R.Denot g.row.W.Denot =
    record { reader = c.self.inside.reader; writer = c.self.inside.writer; disk = c.self.inside.lengths; closed = c.self.inside.closed; due = c.self.inside.due } in
    let m : Connection g.row.R.Denot g.row.W.Denot = record {
      reader = c.send_first-begun.new.reader;
      writer = c.send_first-begun.new.writer;
      disk = c.self.inside.lengths;
      closed = c.is_due-self-inside.result;
      due = c.in-Ok.due;
    } in
    let same : l ≡ c.args.self.now = c.self.view_is in
    let bodies = (texts c.args.before.now ++ texts c.args.first.now) ++ (texts c.args.between.now ++ texts c.args.last.now) in
    subst (λ (x : Connection g.row.R.Denot g.row.W.Denot). Streams g.R.Read.remaining g.W.Write.contents x bodies [] m) same
    (begun_over g.R.Read.remaining g.W.Write.contents l m bodies (c.if-is_closed.ensures ∙ sym (ap (λ (k : Connection g.row.R.Denot g.row.W.Denot). k.closed) same))
    c.is_due-self-inside.ensures refl c.send_first-begun.ensures.unread c.in-Ok.ensures.ok c.in-Ok.ensures.count)

pub returns-in-Err-clause-err : goal.returns-in-Err-clause-err
returns-in-Err-clause-err g c =
    let l : Connection g.row.R.Denot g.row.W.Denot =
    record { reader = c.self.inside.reader; writer = c.self.inside.writer; disk = c.self.inside.lengths; closed = c.self.inside.closed; due = c.self.inside.due } in
    let m : Connection g.row.R.Denot g.row.W.Denot = record {
      reader = c.send_first-begun.new.reader;
      writer = c.send_first-begun.new.writer;
      disk = c.self.inside.lengths;
      closed = true;
      due = c.self.inside.due;
    } in
    let same : l ≡ c.args.self.now = c.self.view_is in
    let bodies = (texts c.args.before.now ++ texts c.args.first.now) ++ (texts c.args.between.now ++ texts c.args.last.now) in
    subst (λ (x : Connection g.row.R.Denot g.row.W.Denot). (exchanges : List Exchange) × StreamBatch g.R.Read.remaining g.W.Write.contents x bodies (Err c.in-Err.fault) exchanges m) same
    (unsent_over g.R.Read.remaining g.W.Write.contents c.in-Err.fault l m bodies (c.if-is_closed.ensures ∙ sym (ap (λ (k : Connection g.row.R.Denot g.row.W.Denot). k.closed) same))
    refl refl c.send_first-begun.ensures.unread c.in-Err.ensures.err)
