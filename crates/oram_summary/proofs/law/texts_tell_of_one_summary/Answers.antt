use Rattle.oram_summary.proofs.Decoded.{one_summary}
use Rattle.oram_summary.proofs.law.texts_tell_of_one_summary.Goals as goal

pub returns : goal.returns
returns c = one_summary
