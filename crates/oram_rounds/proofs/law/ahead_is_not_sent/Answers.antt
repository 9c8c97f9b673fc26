use Rattle.oram_rounds.proofs.AheadInTurn.{ahead_is_not_sent}
use Rattle.oram_rounds.proofs.law.ahead_is_not_sent.Goals as goal

pub returns : goal.returns
returns c c' = ahead_is_not_sent _
