use Rattle.oram_link_laws.proofs.Streamed.{streams_are_run}
use Rattle.oram_link_laws.proofs.law.streams_are_run.Goals as goal

pub returns : goal.returns
returns c c' = streams_are_run _ _
