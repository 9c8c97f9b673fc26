use Rattle.oram_rounds.proofs.Round.{calls_are_of_the_host_later}
use Rattle.oram_rounds.proofs.law.calls_are_of_the_host_later.Goals as goal

pub returns : goal.returns
returns c c' = calls_are_of_the_host_later _
