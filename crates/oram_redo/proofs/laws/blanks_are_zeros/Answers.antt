use Rattle.oram_redo.proofs.BlankLaw.{blanks_are_zeros, blanks_example}
use Rattle.oram_redo.proofs.laws.blanks_are_zeros.Goals as goal

pub returns-clause-law : goal.returns-clause-law
returns-clause-law c = blanks_are_zeros

pub returns-clause-example : goal.returns-clause-example
returns-clause-example c = blanks_example
