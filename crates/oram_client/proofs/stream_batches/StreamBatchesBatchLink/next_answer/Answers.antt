use Rattle.std.proofs.Common.{◌≡◌, refl, subst, ℕ}
use Rattle.oram_session.specs.Outcome.{outcome_of}
use Rattle.oram_rounds.specs.Streams.{GivesNext}
use Rattle.oram_client.specs.StreamBatches.{Connection, ReceivesWithin, StreamBatch, Streams}
use Rattle.oram_client.proofs.TakenAnswers.{next_read}
use Rattle.oram_client.proofs.stream_batches.StreamBatchesBatchLink.next_answer.Goals as goal

pub returns : goal.returns
returns g c =
    let k : Connection g.row.R.Denot g.row.W.Denot =
    record { reader = c.self.inside.reader; writer = c.self.inside.writer; disk = c.self.inside.lengths; closed = c.self.inside.closed; due = c.self.inside.due } in
    let m : Connection g.row.R.Denot g.row.W.Denot = record {
      reader = c.hear_next-answer.new.reader;
      writer = c.hear_next-answer.new.writer;
      disk = c.self.inside.lengths;
      closed = c.stays_closed-self-inside.result;
      due = c.hear_next-answer.new.due;
    } in
    let same : k ≡ c.args.self.now = c.self.view_is in
    let body = c.args.body.now in
    let o = outcome_of c.hear_next-answer.result in
    let e = c.hear_next-answer.ensures in
    let mid = e.read.0 in
    let read = subst (λ (n : ℕ). ReceivesWithin n mid (g.R.Read.remaining m.reader) o) c.longest-longest.ensures.value e.read.2 in
    subst (λ (x : Connection g.row.R.Denot g.row.W.Denot). GivesNext (StreamBatch g.R.Read.remaining g.W.Write.contents) (Streams g.R.Read.remaining g.W.Write.contents) x body o m) same
    (next_read g.R.Read.remaining g.W.Write.contents c.hear_next-answer.result k m body mid c.stays_closed-self-inside.ensures e.wrote e.left e.last refl e.read.1 read)
