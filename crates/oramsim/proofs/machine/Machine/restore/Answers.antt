use Rattle.oramsim.proofs.Interference.{restored}
use Rattle.oramsim.proofs.machine.Machine.restore.Goals as goal

pub returns-clause-ok : goal.returns-clause-ok
returns-clause-ok c = λ r f. restored r c.args.self.now c.in_ok-self.field-0 c.in-Some.kept f c.in-Some.is c.in_ok-self.ensures
