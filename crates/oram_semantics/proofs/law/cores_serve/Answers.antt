use Rattle.oram_semantics.proofs.ArrayService.{cores_serve}
use Rattle.oram_semantics.proofs.law.cores_serve.Goals as goal

pub returns : goal.returns
returns c = cores_serve
