use Rattle.std.proofs.Common.{◌++◌, List, ◌∙◌, subst}
use Rattle.oram_link_laws.specs.Runs.{Exchange}
use Rattle.oram_rounds.specs.Batches.{batch_outcome_of, texts}
use Rattle.oram_client.specs.StreamBatches.{Connection, StreamBatch}
use Rattle.oram_client.proofs.timed_link.TimedLink.call_between.Goals as goal

pub returns : goal.returns
returns g c =
    let bodies = (texts c.args.before.now ++ texts c.args.first.now) ++ (texts c.args.between.now ++ texts c.args.last.now) in
    let o = batch_outcome_of c.call_between.result in
    subst (λ (l : Connection g.row.S.Denot g.row.S.Denot). (x : List Exchange) × StreamBatch g.S.Read.remaining g.S.Write.contents l bodies o x c.call_between.new.self)
    (c.self.view_is ∙ c.begin_batch.ensures) c.call_between.ensures
