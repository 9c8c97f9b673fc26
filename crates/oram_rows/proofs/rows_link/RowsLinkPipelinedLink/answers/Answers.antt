use Rattle.std.proofs.Common.{◌≡◌, refl, subst}
use Rattle.oram_rounds.specs.Batches.{batch_outcome_of, texts}
use Rattle.oram_pipeline.specs.Pipelines.{EndsBatch}
use Rattle.oram_near.specs.EmptyRecords.{made_with}
use Rattle.oram_rows.specs.RowsLink.{RowsBatch, RowsValue}
use Rattle.oram_rows.proofs.Links.{ends}
use Rattle.oram_rows.proofs.rows_link.RowsLinkPipelinedLink.answers.Goals as goal

pub returns : goal.returns
returns g c =
    let i = c.self.inside in
    let k : RowsValue _ _ = record { inner = i.inner; known = i.known } in
    let m : RowsValue _ _ = record { inner = c.answers-outcome.new.self; known = i.known } in
    let bodies = texts c.args.bodies.now in
    let o = batch_outcome_of c.complete_outcome.result in
    let asks = g.B.PipelinedLink.asks in
    subst (λ (k' : RowsValue _ _). EndsBatch (RowsBatch g.B.BatchLink.batches (made_with g.E.EmptyRecords.record_at)) (λ (l : RowsValue _ _) bodies' x. asks l.inner bodies' x.inner × (x.known ≡ l.known)) bodies k' o m) c.self.view_is
    (ends g.B.BatchLink.batches (made_with g.E.EmptyRecords.record_at) g.met.B.BatchLink.are_batches asks k m bodies (batch_outcome_of c.answers-outcome.result) o refl c.answers-outcome.ensures c.complete_outcome.ensures)
