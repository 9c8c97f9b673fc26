use Rattle.oramsim.proofs.Interference.{swapped}
use Rattle.oramsim.proofs.machine.Machine.swap.Goals as goal

pub returns-clause-ok : goal.returns-clause-ok
returns-clause-ok c = λ r f. swapped r c.args.self.now c.args.tree_a c.args.node_a c.args.tree_b c.args.node_b c.swap.new.self c.swap.result f c.swap.ensures.swapped
