use Rattle.oram_near.specs.EmptyRecords.{made_with, of_maker}
use Rattle.oram_near.proofs.Completed.{completes_paths as law}
use Rattle.oram_near.proofs.law.completes_paths.Goals as goal

pub returns : goal.returns
returns g c = law g.B.BatchLink.batches (made_with g.E.EmptyRecords.record_at) (of_maker g.E.EmptyRecords.device) (of_maker g.E.EmptyRecords.record_len)
