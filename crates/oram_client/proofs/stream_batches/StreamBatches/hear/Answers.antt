use Rattle.std.proofs.Common.{◌≡◌, refl, subst}
use Rattle.oram_pipeline.specs.Pipelines.{EndsBatch}
use Rattle.oram_rounds.specs.Batches.{batch_outcome_of, texts}
use Rattle.oram_client.specs.StreamBatches.{Connection, StreamAsk, StreamBatch}
use Rattle.oram_client.proofs.SentAhead.{batch_ends}
use Rattle.oram_client.proofs.stream_batches.StreamBatches.hear.Goals as goal

pub returns-clause-ends : goal.returns-clause-ends
returns-clause-ends g c =
    let k : Connection g.row.R.Denot g.row.W.Denot = record { reader = c.self.inside.reader; writer = c.self.inside.writer; disk = c.self.inside.lengths; closed = c.self.inside.closed; due = c.self.inside.due } in
    let m : Connection g.row.R.Denot g.row.W.Denot = record { reader = c.receive_all-heard.new.reader; writer = c.self.inside.writer; disk = c.self.inside.lengths; closed = c.is_err-self-inside.result; due = c.self.inside.due } in
    let same : k ≡ c.args.self.now = c.self.view_is in
    let bodies = texts c.args.bodies.now in
    subst (λ (x : Connection g.row.R.Denot g.row.W.Denot).
    EndsBatch (StreamBatch g.R.Read.remaining g.W.Write.contents) (StreamAsk g.W.Write.contents) bodies x (batch_outcome_of c.receive_all-heard.result) m) same
    (batch_ends g.R.Read.remaining g.W.Write.contents c.receive_all-heard.result k m bodies c.is_err-self-inside.ensures.value refl refl c.receive_all-heard.ensures.ok c.receive_all-heard.ensures.err)
