use Rattle.oram_link_laws.proofs.Streamed.{streamed_sessions_are_the_arrays}
use Rattle.oram_link_laws.proofs.law.streamed_sessions_are_the_arrays.Goals as goal

pub returns : goal.returns
returns c c' = streamed_sessions_are_the_arrays _ _
