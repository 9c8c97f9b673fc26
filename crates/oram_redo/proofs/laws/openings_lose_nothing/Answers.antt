use Rattle.oram_redo.proofs.Openings.{opening_example, recoveries_lose_nothing, renewals_lose_nothing}
use Rattle.oram_redo.proofs.laws.openings_lose_nothing.Goals as goal

pub returns-clause-renewal : goal.returns-clause-renewal
returns-clause-renewal c = renewals_lose_nothing

pub returns-clause-recovery : goal.returns-clause-recovery
returns-clause-recovery c = recoveries_lose_nothing

pub returns-clause-example : goal.returns-clause-example
returns-clause-example c = opening_example
