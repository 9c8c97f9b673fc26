use Rattle.oram_layout.proofs.Contents.{same_records}
use Rattle.oram_layout.proofs.laws.same_content.Goals as goal

pub returns : goal.returns
returns c = same_records
