use Rattle.oram_nbd.proofs.Beside.{weaker}
use Rattle.oram_nbd.proofs.ListSteps.{reads_two}
use Rattle.oram_nbd.proofs.ranges.read_two.Goals as goal

pub returns-clause-goes : goal.returns-clause-goes
returns-clause-goes g c =
    weaker c.carry_out.ensures.goes (λ may_lie world old new h step.
    let read = reads_two c.carry_out.result (λ v. v.items) c.args.at c.args.count c.args.last c.args.more old new step.0 step.2 in (read.0, read.1, step.1))
