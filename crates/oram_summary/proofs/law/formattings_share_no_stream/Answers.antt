use Rattle.oram_summary.proofs.SealingLaws.{formattings_apart}
use Rattle.oram_summary.proofs.law.formattings_share_no_stream.Goals as goal

pub returns : goal.returns
returns c = formattings_apart
