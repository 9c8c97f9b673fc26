use Rattle.std.proofs.Common.{refl}
use Rattle.std.proofs.lemmas.Result.{IfOk-from_err}
use Rattle.oram_settings.proofs.command_line.subcommand_of.Goals as goal

pub returns-in_err-word : goal.returns-in_err-word
returns-in_err-word c = IfOk-from_err c.from_residual.result _ c.from_residual.ensures.0

pub returns-in_err-from_str-in-new : goal.returns-in_err-from_str-in-new
returns-in_err-from_str-in-new c = IfOk-from_err c.from_residual-in_err-from_str-in-new.result _ c.from_residual-in_err-from_str-in-new.ensures.0

pub returns-in-host : goal.returns-in-host
returns-in-host c = rw (c.in-None-None.is-0, c.in-None-None.is-1, c.in-host.is, c.in_ok-word.ensures.ok) refl

pub returns-in-format : goal.returns-in-format
returns-in-format c = rw (c.in-None-None.is-0, c.in-None-None.is-1, c.in-format.is, c.in_ok-word.ensures.ok) refl

pub returns-in-serve : goal.returns-in-serve
returns-in-serve c = rw (c.in-None-None.is-0, c.in-None-None.is-1, c.in-serve.is, c.in_ok-word.ensures.ok) refl

pub returns-in-status : goal.returns-in-status
returns-in-status c = rw (c.in-None-None.is-0, c.in-None-None.is-1, c.in-status.is, c.in_ok-word.ensures.ok) refl

pub returns-in-retry : goal.returns-in-retry
returns-in-retry c = rw (c.in-None-None.is-0, c.in-None-None.is-1, c.in-retry.is, c.in_ok-word.ensures.ok) refl

pub returns-in-check : goal.returns-in-check
returns-in-check c = rw (c.in-None-None.is-0, c.in-None-None.is-1, c.in-check.is, c.in_ok-word.ensures.ok) refl

pub returns-in_ok-from_str-in-new : goal.returns-in_ok-from_str-in-new
returns-in_ok-from_str-in-new c = rw (c.in-Some-None.is-0, c.in-Some-None.is-1, c.in-new.is, c.in_ok-word.ensures.ok, c.in_ok-from_str-in-new.ensures.ok) refl
