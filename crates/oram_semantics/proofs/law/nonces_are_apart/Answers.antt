use Rattle.oram_semantics.proofs.NoncesApart.{nonces_apart}
use Rattle.oram_semantics.proofs.law.nonces_are_apart.Goals as goal

pub returns : goal.returns
returns c = nonces_apart
