use Rattle.oram_pair.specs.declared.names.PairName.TheVariants.{NewFile}
use Rattle.oram_pair.proofs.making.name_log.Goals as goal

pub returns-clause-file : goal.returns-clause-file
returns-clause-file c = λ ours. c.give_name.ensures.others NewFile (λ is. absurd cc) ours
