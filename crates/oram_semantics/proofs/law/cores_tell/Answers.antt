use Rattle.oram_semantics.proofs.MatchesPast.{cores_tell}
use Rattle.oram_semantics.proofs.law.cores_tell.Goals as goal

pub returns : goal.returns
returns c = cores_tell
