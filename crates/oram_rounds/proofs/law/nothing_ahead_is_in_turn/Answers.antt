use Rattle.oram_rounds.proofs.AheadInTurn.{nothing_ahead_is_in_turn}
use Rattle.oram_rounds.proofs.law.nothing_ahead_is_in_turn.Goals as goal

pub returns : goal.returns
returns c c' = nothing_ahead_is_in_turn _
