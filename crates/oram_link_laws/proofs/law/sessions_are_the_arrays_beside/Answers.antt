use Rattle.oram_link_laws.proofs.Paired.{sessions_are_the_arrays_beside}
use Rattle.oram_link_laws.proofs.law.sessions_are_the_arrays_beside.Goals as goal

pub returns : goal.returns
returns c c' = sessions_are_the_arrays_beside _
