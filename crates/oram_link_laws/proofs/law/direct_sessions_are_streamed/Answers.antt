use Rattle.oram_link_laws.proofs.Streamed.{direct_sessions_are_streamed}
use Rattle.oram_link_laws.proofs.law.direct_sessions_are_streamed.Goals as goal

pub returns : goal.returns
returns c = direct_sessions_are_streamed
