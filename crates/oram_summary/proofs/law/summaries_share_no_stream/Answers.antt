use Rattle.oram_summary.proofs.SealingLaws.{streams_apart}
use Rattle.oram_summary.proofs.law.summaries_share_no_stream.Goals as goal

pub returns : goal.returns
returns c = streams_apart
