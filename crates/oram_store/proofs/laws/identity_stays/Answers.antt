use Rattle.oram_store.proofs.Identity.{identity_stays}
use Rattle.oram_store.proofs.laws.identity_stays.Goals as goal

pub returns : goal.returns
returns g = identity_stays
