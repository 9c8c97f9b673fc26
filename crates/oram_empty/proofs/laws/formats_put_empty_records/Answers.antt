use Rattle.oram_empty.proofs.Fixed.{formats_put}
use Rattle.oram_empty.proofs.laws.formats_put_empty_records.Goals as goal

pub returns : goal.returns
returns c = formats_put
