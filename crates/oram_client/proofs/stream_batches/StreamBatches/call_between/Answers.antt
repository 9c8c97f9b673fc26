use Rattle.std.proofs.Common.{◌≡◌, ◌++◌, List, refl, sym, ap, ◌∙◌, subst}
use Rattle.oram_link_laws.specs.Runs.{Exchange}
use Rattle.oram_rounds.specs.Batches.{batch_outcome_of, texts}
use Rattle.oram_client.specs.StreamBatches.{Connection, StreamBatch}
use Rattle.oram_client.proofs.Carried.{a_batch}
use Rattle.oram_client.proofs.stream_batches.StreamBatches.call_between.Goals as goal

pub returns : goal.returns
returns g c =
    let l : Connection g.row.R.Denot g.row.W.Denot = record { reader = c.self.inside.reader; writer = c.self.inside.writer; disk = c.self.inside.lengths; closed = c.self.inside.closed; due = c.self.inside.due } in
    let m : Connection g.row.R.Denot g.row.W.Denot = record { reader = c.carry-outcome.new.reader; writer = c.carry-outcome.new.writer; disk = c.self.inside.lengths; closed = c.is_err-self-inside.result; due = c.self.inside.due } in
    let same : l ≡ c.args.self.now = c.self.view_is in
    let bodies = (texts c.args.before.now ++ texts c.args.first.now) ++ (texts c.args.between.now ++ texts c.args.last.now) in
    let o = batch_outcome_of c.carry-outcome.result in
    let batch = a_batch g.R.Read.remaining g.W.Write.contents l m bodies c.carry-outcome.result c.carry-outcome.ensures.0
    (c.if-is_closed.ensures ∙ sym (ap (λ (k : Connection g.row.R.Denot g.row.W.Denot). k.closed) same)) c.is_err-self-inside.ensures.value refl c.carry-outcome.ensures.1 in
    subst (λ (k : Connection g.row.R.Denot g.row.W.Denot). (x : List Exchange) × StreamBatch g.R.Read.remaining g.W.Write.contents k bodies o x m) same (c.carry-outcome.ensures.0, batch)
