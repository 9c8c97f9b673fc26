use Rattle.oram_redo.proofs.Outcomes.{some_none}
use Rattle.std.proofs.Common.{arith}
use Rattle.oram_redo.proofs.redo.end_behind.Goals as goal

pub returns-in_err-next-clause-some : goal.returns-in_err-next-clause-some
returns-in_err-next-clause-some c = some_none c.from_residual.result _ c.from_residual.ensures

pub returns-then-next-room_end-clause-some : goal.returns-then-next-room_end-clause-some
returns-then-next-room_end-clause-some c = (c.in_ok-next.ensures.1, c.if-next-room_end.true)

pub returns-else-next-room_end-clause-none : goal.returns-else-next-room_end-clause-none
returns-else-next-room_end-clause-none c = omega (arith, c.in_ok-next.ensures.1, c.if-next-room_end.false)
