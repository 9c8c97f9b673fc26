use Rattle.std.proofs.Common.{arith}
use Rattle.oram_cli.proofs.Numbers.{one_digit, two_digits, three_digits}
use Rattle.oram_cli.proofs.writer.put_number.Goals as goal

pub returns-then-number-lt10-clause-ok : goal.returns-then-number-lt10-clause-ok
returns-then-number-lt10-clause-ok g c = rw (one_digit c.args.number c.if-number-lt10.true) c.put_both.ensures.ok

pub returns-then-number-lt10-clause-begun : goal.returns-then-number-lt10-clause-begun
returns-then-number-lt10-clause-begun g c = rw (one_digit c.args.number c.if-number-lt10.true) c.put_both.ensures.begun

pub returns-then-number-lt100-clause-ok : goal.returns-then-number-lt100-clause-ok
returns-then-number-lt100-clause-ok g c =
    rw (two_digits c.args.number c.if-number-lt10.false c.if-number-lt100.true) c.put_both-then-number-lt100.ensures.ok

pub returns-then-number-lt100-clause-begun : goal.returns-then-number-lt100-clause-begun
returns-then-number-lt100-clause-begun g c =
    rw (two_digits c.args.number c.if-number-lt10.false c.if-number-lt100.true) c.put_both-then-number-lt100.ensures.begun

pub returns-else-number-lt100-clause-ok : goal.returns-else-number-lt100-clause-ok
returns-else-number-lt100-clause-ok g c =
    rw (three_digits c.args.number c.if-number-lt100.false (omega arith)) c.put_both-else-number-lt100.ensures.ok

pub returns-else-number-lt100-clause-begun : goal.returns-else-number-lt100-clause-begun
returns-else-number-lt100-clause-begun g c =
    rw (three_digits c.args.number c.if-number-lt100.false (omega arith)) c.put_both-else-number-lt100.ensures.begun
