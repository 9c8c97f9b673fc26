use Rattle.oram_summary.proofs.SealingLaws.{right_open}
use Rattle.oram_summary.proofs.law.right_tags_open.Goals as goal

pub returns : goal.returns
returns c = right_open
