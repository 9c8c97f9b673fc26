use Rattle.oram_summary.proofs.SealingLaws.{texts_open}
use Rattle.oram_summary.proofs.law.sealed_texts_open.Goals as goal

pub returns : goal.returns
returns c = texts_open
