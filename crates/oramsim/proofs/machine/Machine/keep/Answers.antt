use Rattle.oramsim.proofs.Interference.{kept}
use Rattle.oramsim.proofs.machine.Machine.keep.Goals as goal

pub returns-clause-ok : goal.returns-clause-ok
returns-clause-ok c = λ r f. kept r c.args.self.now c.in_ok-copy.field-0 f c.in_ok-copy.ensures
