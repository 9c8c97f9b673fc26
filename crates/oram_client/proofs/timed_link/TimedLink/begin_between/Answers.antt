use Rattle.std.proofs.Common.{◌++◌, List, Err, ◌∙◌, subst}
use Rattle.std.specs.Prelude.{IfErr}
use Rattle.oram_link_laws.specs.Runs.{Exchange}
use Rattle.oram_rounds.specs.Batches.{texts}
use Rattle.oram_client.specs.StreamBatches.{Connection, StreamBatch}
use Rattle.oram_client.proofs.timed_link.TimedLink.begin_between.Goals as goal

pub returns-clause-err : goal.returns-clause-err
returns-clause-err g c =
    let bodies = (texts c.args.before.now ++ texts c.args.first.now) ++ (texts c.args.between.now ++ texts c.args.last.now) in
    subst (λ (l : Connection g.row.S.Denot g.row.S.Denot).
    IfErr c.begin_between.result (λ fault. (exchanges : List Exchange) × StreamBatch g.S.Read.remaining g.S.Write.contents l bodies (Err fault) exchanges c.begin_between.new.self))
    (c.self.view_is ∙ c.begin_batch.ensures) c.begin_between.ensures.err
