use Rattle.oram_summary.proofs.SealingLaws.{have_their_tag}
use Rattle.oram_summary.proofs.law.opened_texts_have_their_tag.Goals as goal

pub returns : goal.returns
returns c = have_their_tag
