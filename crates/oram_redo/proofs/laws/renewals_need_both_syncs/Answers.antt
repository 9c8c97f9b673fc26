use Rattle.oram_redo.proofs.Renewals.{both_syncs_are_needed, renewal_example}
use Rattle.oram_redo.proofs.laws.renewals_need_both_syncs.Goals as goal

pub returns-clause-example : goal.returns-clause-example
returns-clause-example c = renewal_example

pub returns-clause-needed : goal.returns-clause-needed
returns-clause-needed c = both_syncs_are_needed
