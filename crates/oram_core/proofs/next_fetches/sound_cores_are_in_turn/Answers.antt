use Rattle.oram_core.proofs.InTurn.{sound_cores_are_in_turn}
use Rattle.oram_core.proofs.next_fetches.sound_cores_are_in_turn.Goals as goal

pub returns : goal.returns
returns c = sound_cores_are_in_turn
