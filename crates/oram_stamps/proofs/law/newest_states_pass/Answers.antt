use Rattle.oram_stamps.proofs.Lives.{newest_pass}
use Rattle.oram_stamps.proofs.law.newest_states_pass.Goals as goal

pub returns : goal.returns
returns c = newest_pass
