use Rattle.oram_redo.proofs.LawProofs.{replay_heals}
use Rattle.oram_redo.proofs.laws.replay_heals.Goals as goal

pub returns : goal.returns
returns c = replay_heals
