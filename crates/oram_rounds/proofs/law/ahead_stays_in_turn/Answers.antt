use Rattle.oram_rounds.proofs.AheadInTurn.{ahead_stays_in_turn}
use Rattle.oram_rounds.proofs.law.ahead_stays_in_turn.Goals as goal

pub returns : goal.returns
returns c c' = ahead_stays_in_turn _ _
