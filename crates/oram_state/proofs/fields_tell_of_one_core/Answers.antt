use Rattle.oram_state.proofs.Sized.{one_core_bare}
use Rattle.oram_state.proofs.fields_tell_of_one_core.Goals as goal

pub returns : goal.returns
returns c = λ text overhead d d' s s' h h'. one_core_bare text overhead d d' s s' h h'
