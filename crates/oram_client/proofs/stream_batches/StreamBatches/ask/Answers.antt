use Rattle.std.proofs.Common.{◌≡◌, List, Err, refl, sym, ap, ◌∙◌, subst}
use Rattle.std.specs.Prelude.{IfErr}
use Rattle.oram_link_laws.specs.Runs.{Exchange}
use Rattle.oram_rounds.specs.Batches.{texts}
use Rattle.oram_client.specs.StreamBatches.{Connection, StreamBatch}
use Rattle.oram_client.proofs.SentAhead.{unsent_batch}
use Rattle.oram_client.proofs.stream_batches.StreamBatches.ask.Goals as goal

pub returns-clause-err : goal.returns-clause-err
returns-clause-err g c =
    let l : Connection g.row.R.Denot g.row.W.Denot = record { reader = c.self.inside.reader; writer = c.self.inside.writer; disk = c.self.inside.lengths; closed = c.self.inside.closed; due = c.self.inside.due } in
    let m : Connection g.row.R.Denot g.row.W.Denot = record { reader = c.self.inside.reader; writer = c.send_all-sent.new.writer; disk = c.self.inside.lengths; closed = c.is_err-self-inside.result; due = c.self.inside.due } in
    let same : l ≡ c.args.self.now = c.self.view_is in
    let bodies = texts c.args.bodies.now in
    subst (λ (x : Connection g.row.R.Denot g.row.W.Denot).
    IfErr c.send_all-sent.result (λ fault. (exchanges : List Exchange) × StreamBatch g.R.Read.remaining g.W.Write.contents x bodies (Err fault) exchanges m)) same
    (unsent_batch g.R.Read.remaining g.W.Write.contents c.send_all-sent.result l m bodies
    (c.if-is_closed.ensures ∙ sym (ap (λ (k : Connection g.row.R.Denot g.row.W.Denot). k.closed) same)) c.is_err-self-inside.ensures.value refl refl c.send_all-sent.ensures.err)
