use Rattle.oram_semantics.proofs.InTurn.{cores_ask_in_turn}
use Rattle.oram_semantics.proofs.law.cores_ask_in_turn.Goals as goal

pub returns : goal.returns
returns c = cores_ask_in_turn
