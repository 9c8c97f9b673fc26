use Rattle.oram_link_laws.proofs.Device.{session_example}
use Rattle.oram_link_laws.proofs.law.session_example.Goals as goal

pub returns : goal.returns
returns c = session_example
