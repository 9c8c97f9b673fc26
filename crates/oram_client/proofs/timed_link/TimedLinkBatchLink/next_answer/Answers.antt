use Rattle.std.proofs.Common.{subst}
use Rattle.oram_session.specs.Outcome.{outcome_of}
use Rattle.oram_rounds.specs.Streams.{GivesNext}
use Rattle.oram_client.specs.StreamBatches.{Connection, StreamBatch, Streams}
use Rattle.oram_client.proofs.timed_link.TimedLinkBatchLink.next_answer.Goals as goal

pub returns : goal.returns
returns g c =
    subst (λ (l : Connection g.row.S.Denot g.row.S.Denot). GivesNext (StreamBatch g.S.Read.remaining g.S.Write.contents) (Streams g.S.Read.remaining g.S.Write.contents) l c.args.body.now
    (outcome_of c.next_answer.result) c.next_answer.new.self) c.self.view_is c.next_answer.ensures
