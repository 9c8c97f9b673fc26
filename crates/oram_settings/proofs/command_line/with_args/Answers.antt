use Rattle.std.proofs.Common.{refl}
use Rattle.std.proofs.lemmas.Result.{IfOk-from_err, IfOk-weaker}
use Rattle.oram_settings.proofs.Arguments.{arg_local, with_arg}
use Rattle.oram_settings.proofs.command_line.with_args.Goals as goal

pub returns-in_err-arg-clause-local : goal.returns-in_err-arg-clause-local
returns-in_err-arg-clause-local c = IfOk-from_err c.from_residual.result _ c.from_residual.ensures.0

pub returns-in_err-arg-clause-app : goal.returns-in_err-arg-clause-app
returns-in_err-arg-clause-app c = IfOk-from_err c.from_residual.result _ c.from_residual.ensures.0

pub returns-clause-local : goal.returns-clause-local
returns-clause-local c =
    let first = arg_local c.args.command c.in_ok-arg.field-0 c.args.word c.in_ok-arg.ensures c.requires.word c.requires.local in
    IfOk-weaker c.arg-2.result _ _ (λ m adds. arg_local c.in_ok-arg.field-0 m c.args.more adds c.requires.more first) c.arg-2.ensures

pub returns-clause-app : goal.returns-clause-app
returns-clause-app c =
    let first = with_arg c.args.command c.in_ok-arg.field-0 c.args.word c.in_ok-arg.ensures c.requires.word _ _ refl refl in
    IfOk-weaker c.arg-2.result _ _ (λ m adds. with_arg c.in_ok-arg.field-0 m c.args.more adds c.requires.more _ _ first refl) c.arg-2.ensures
