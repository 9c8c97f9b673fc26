use Rattle.std.proofs.Common.{refl}
use Rattle.std.proofs.lemmas.Result.{IfOk-from_err}
use Rattle.oram_core.proofs.Heard.{on_err}
use Rattle.oram_core.proofs.machine.Core.finish.Goals as goal

pub same-self : goal.same-self
same-self g c = refl

pub same-self-in-Some : goal.same-self-in-Some
same-self-in-Some g c = refl

pub same-self-in-None : goal.same-self-in-None
same-self-in-None g c = refl

pub returns-in_err-sending-in-Some-clause-kept : goal.returns-in_err-sending-in-Some-clause-kept
returns-in_err-sending-in-Some-clause-kept g c = (refl, refl)

pub returns-in_err-sending-in-Some-clause-ok : goal.returns-in_err-sending-in-Some-clause-ok
returns-in_err-sending-in-Some-clause-ok g c = λ x rest q. IfOk-from_err c.from_residual.result _ c.from_residual.ensures.0

pub returns-in_err-sending-in-Some-clause-err : goal.returns-in_err-sending-in-Some-clause-err
returns-in_err-sending-in-Some-clause-err g c = on_err _ c.from_residual.result refl

pub finish_before_next-requires-clause-waiting : goal.finish_before_next-requires-clause-waiting
finish_before_next-requires-clause-waiting g c = c.requires.waiting

pub finish_before_next-requires-clause-last : goal.finish_before_next-requires-clause-last
finish_before_next-requires-clause-last g c = c.requires.last

pub finish_last-requires-clause-waiting : goal.finish_last-requires-clause-waiting
finish_last-requires-clause-waiting g c = c.requires.waiting

pub finish_last-requires-clause-last : goal.finish_last-requires-clause-last
finish_last-requires-clause-last g c = c.requires.last

pub returns-in_ok-sending-in-Some-clause-kept : goal.returns-in_ok-sending-in-Some-clause-kept
returns-in_ok-sending-in-Some-clause-kept g c = c.finish_before_next.ensures.kept

pub returns-in_ok-sending-in-Some-clause-ok : goal.returns-in_ok-sending-in-Some-clause-ok
returns-in_ok-sending-in-Some-clause-ok g c = c.finish_before_next.ensures.ok

pub returns-in_ok-sending-in-Some-clause-err : goal.returns-in_ok-sending-in-Some-clause-err
returns-in_ok-sending-in-Some-clause-err g c = c.finish_before_next.ensures.err

pub returns-in-None-clause-kept : goal.returns-in-None-clause-kept
returns-in-None-clause-kept g c = c.finish_last.ensures.kept

pub returns-in-None-clause-ok : goal.returns-in-None-clause-ok
returns-in-None-clause-ok g c = c.finish_last.ensures.ok

pub returns-in-None-clause-err : goal.returns-in-None-clause-err
returns-in-None-clause-err g c = c.finish_last.ensures.err
