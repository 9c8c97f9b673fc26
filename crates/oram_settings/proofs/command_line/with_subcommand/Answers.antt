use Rattle.std.proofs.Common.{◌≡◌, ◌∙◌, ap}
use Rattle.std.proofs.lemmas.Result.{IfOk-at_ok, IfOk-from_err, IfOk-weaker}
use Rattle.clap.specs.Words.{Shape, app_of, shape_of, with_subcommand}
use Rattle.clap.specs.declared.builder.command.Command.{Command}
use Rattle.oram_settings.proofs.command_line.with_subcommand.Goals as goal

pub returns-in_err-made : goal.returns-in_err-made
returns-in_err-made c shape is = IfOk-from_err c.from_residual.result _ c.from_residual.ensures.0

pub returns : goal.returns
returns c shape is =
    let shape_is = IfOk-at_ok (λ (s : Command). shape_of s ≡ shape) c.in_ok-made.was is in
    let local = IfOk-at_ok _ c.in_ok-made.was c.requires in
    IfOk-weaker c.subcommand.result _ _ (λ m adds. adds.shape local ∙ ap (λ (s : Shape). with_subcommand (app_of c.args.command) s) shape_is) c.subcommand.ensures
