use Rattle.oram_layout.proofs.Changes.{record_put}
use Rattle.oram_layout.proofs.laws.a_record_is_put.Goals as goal

pub returns : goal.returns
returns c = record_put
