use Rattle.oram_near_laws.proofs.Reached.{replies_over_levels_are_the_arrays as law}
use Rattle.oram_near_laws.proofs.law.replies_over_levels_are_the_arrays.Goals as goal

pub returns : goal.returns
returns g c = law _ _ _ _ _
