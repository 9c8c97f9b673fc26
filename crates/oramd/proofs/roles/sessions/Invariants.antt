use Rattle.oram_core.specs.Core.{IsSameDevice}
use Rattle.oram_session.specs.CoreWork.{HasNoWork}
use Rattle.oramd.proofs.roles.sessions.Given as goal

abbrev pub invariant-loop-session : goal.invariant-loop-session
invariant-loop-session g l = HasNoWork l.core.state × IsSameDevice l.fn.core l.core
