use Rattle.oram_near_laws.proofs.Reached.{acts_over_levels_are_safe as law}
use Rattle.oram_near_laws.proofs.law.acts_over_levels_are_safe.Goals as goal

pub returns : goal.returns
returns g c = law _ _ _ _ _
