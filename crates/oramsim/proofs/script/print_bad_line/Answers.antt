use Rattle.std.proofs.Common.{◌∙◌, refl}
use Rattle.oramsim.specs.declared.script.SimFault.TheVariants.{OutOfMemory}
use Rattle.oramsim.proofs.Cut.{unreported}
use Rattle.oramsim.proofs.GivenUp.{raised}
use Rattle.oramsim.proofs.script.print_bad_line.Goals as goal

pub returns-in_err-text-clause-err : goal.returns-in_err-text-clause-err
returns-in_err-text-clause-err g c = raised _ _ OutOfMemory c.from_residual.ensures.1 refl

pub returns-clause-err : goal.returns-clause-err
returns-clause-err g c = unreported _ _ _ _ _ (c.as_bytes.ensures.value ∙ c.in_ok-text.ensures.ok) c.put.ensures.cut c.put.ensures.fault
