use Rattle.std.proofs.Common.{List, Err, ◌∙◌, subst}
use Rattle.std.specs.Prelude.{IfErr}
use Rattle.oram_link_laws.specs.Runs.{Exchange}
use Rattle.oram_rounds.specs.Batches.{texts}
use Rattle.oram_client.specs.StreamBatches.{Connection, StreamBatch}
use Rattle.oram_client.proofs.timed_link.TimedLink.ask.Goals as goal

pub returns-clause-err : goal.returns-clause-err
returns-clause-err g c =
    subst (λ (l : Connection g.row.S.Denot g.row.S.Denot).
    IfErr c.ask.result (λ fault. (exchanges : List Exchange) × StreamBatch g.S.Read.remaining g.S.Write.contents l (texts c.args.bodies.now) (Err fault) exchanges c.ask.new.self))
    (c.self.view_is ∙ c.begin_batch.ensures) c.ask.ensures.err
