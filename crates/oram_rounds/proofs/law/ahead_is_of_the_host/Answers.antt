use Rattle.oram_rounds.proofs.GoneAhead.{ahead_is_of_the_host}
use Rattle.oram_rounds.proofs.law.ahead_is_of_the_host.Goals as goal

pub returns : goal.returns
returns c c' = ahead_is_of_the_host _
