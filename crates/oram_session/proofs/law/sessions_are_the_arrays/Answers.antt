use Rattle.oram_session.proofs.Honesty.{sessions_are_the_arrays}
use Rattle.oram_session.proofs.law.sessions_are_the_arrays.Goals as goal

pub returns : goal.returns
returns c c' = sessions_are_the_arrays _
