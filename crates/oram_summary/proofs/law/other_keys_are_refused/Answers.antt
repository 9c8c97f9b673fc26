use Rattle.oram_summary.proofs.SealingLaws.{others_refused}
use Rattle.oram_summary.proofs.law.other_keys_are_refused.Goals as goal

pub returns : goal.returns
returns c = others_refused
