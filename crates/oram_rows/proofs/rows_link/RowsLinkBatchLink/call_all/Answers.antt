use Rattle.std.proofs.Common.{◌++◌, List, refl, subst}
use Rattle.oram_link_laws.specs.Runs.{Exchange}
use Rattle.oram_rounds.specs.Batches.{batch_outcome_of, texts}
use Rattle.oram_near.specs.EmptyRecords.{made_with}
use Rattle.oram_rows.specs.RowsLink.{RowsBatch, RowsValue}
use Rattle.oram_rows.proofs.Links.{completes}
use Rattle.oram_rows.proofs.rows_link.RowsLinkBatchLink.call_all.Goals as goal

pub returns : goal.returns
returns g c =
    let i = c.self.inside in
    let l : RowsValue _ _ = record { inner = i.inner; known = i.known } in
    let m : RowsValue _ _ = record { inner = c.call_all-outcome.new.self; known = i.known } in
    let bodies = texts c.args.first.now ++ texts c.args.last.now in
    let o = batch_outcome_of c.complete_outcome.result in
    subst (λ (l' : RowsValue _ _). (x : List Exchange) × RowsBatch g.B.BatchLink.batches (made_with g.E.EmptyRecords.record_at) l' bodies o x m) c.self.view_is
    (completes g.B.BatchLink.batches (made_with g.E.EmptyRecords.record_at) g.met.B.BatchLink.are_batches l m bodies (batch_outcome_of c.call_all-outcome.result) o refl c.call_all-outcome.ensures c.complete_outcome.ensures)
