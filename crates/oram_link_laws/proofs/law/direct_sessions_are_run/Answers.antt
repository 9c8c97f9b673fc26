use Rattle.oram_link_laws.proofs.Ran.{direct_sessions_are_run}
use Rattle.oram_link_laws.proofs.law.direct_sessions_are_run.Goals as goal

pub returns : goal.returns
returns c = direct_sessions_are_run
