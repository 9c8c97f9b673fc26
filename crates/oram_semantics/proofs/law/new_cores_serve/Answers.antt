use Rattle.oram_semantics.proofs.ArrayService.{new_cores_serve}
use Rattle.oram_semantics.proofs.law.new_cores_serve.Goals as goal

pub returns : goal.returns
returns c = new_cores_serve
