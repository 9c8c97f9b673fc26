use Rattle.oramsim.proofs.Interference.{tampered}
use Rattle.oramsim.proofs.machine.Machine.tamper.Goals as goal

pub returns-clause-ok : goal.returns-clause-ok
returns-clause-ok c = λ r f. tampered r c.args.self.now c.args.tree c.args.node c.args.offset c.flip.new.self c.flip.result f c.flip.ensures
