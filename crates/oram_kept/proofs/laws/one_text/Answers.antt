use Rattle.oram_kept.proofs.One.{texts_are_one}
use Rattle.oram_kept.proofs.laws.one_text.Goals as goal

pub returns : goal.returns
returns c = texts_are_one
