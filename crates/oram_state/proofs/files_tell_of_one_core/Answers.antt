use Rattle.oram_state.proofs.Sized.{one_core}
use Rattle.oram_state.proofs.files_tell_of_one_core.Goals as goal

pub returns : goal.returns
returns c = λ text overhead d d' s s' fits h h'. one_core text overhead d d' s s' fits h h'
