use Rattle.oram_near_laws.proofs.Next.{next_over_levels_is_safe as law}
use Rattle.oram_near_laws.proofs.law.next_over_levels_is_safe.Goals as goal

pub returns : goal.returns
returns g c = law _ _ _ _ _
