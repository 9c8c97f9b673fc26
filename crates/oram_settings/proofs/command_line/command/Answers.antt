use Rattle.std.proofs.Common.{◌∙◌, ap, codes}
use Rattle.std.proofs.lemmas.Result.{IfOk-weaker}
use Rattle.clap.specs.Words.{App, with_subcommand}
use Rattle.oram_settings.specs.CommandLine as spec
use Rattle.oram_settings.proofs.command_line.command.Goals as goal

pub returns : goal.returns
returns c =
    let one = c.in_ok-made.ensures spec.folder_maker c.folder_maker.ensures.shape ∙ ap (λ (a : App). with_subcommand a spec.folder_maker) c.bare_command.ensures in
    let two = c.in_ok-made-2.ensures spec.host_runner c.host_runner.ensures.shape ∙ ap (λ (a : App). with_subcommand a spec.host_runner) one in
    let three = c.in_ok-made-3.ensures (spec.disk_command (codes "format")) c.disk_command-format.ensures.shape ∙ ap (λ (a : App). with_subcommand a (spec.disk_command (codes "format"))) two in
    let four = c.in_ok-made-4.ensures (spec.disk_command (codes "serve")) c.disk_command-serve.ensures.shape ∙ ap (λ (a : App). with_subcommand a (spec.disk_command (codes "serve"))) three in
    let five = c.in_ok-made-5.ensures spec.status_printer c.status_printer.ensures.shape ∙ ap (λ (a : App). with_subcommand a spec.status_printer) four in
    let six = c.in_ok-made-6.ensures (spec.disk_command (codes "retry")) c.disk_command-retry.ensures.shape ∙ ap (λ (a : App). with_subcommand a (spec.disk_command (codes "retry"))) five in
    let seven = c.in_ok-made-7.ensures spec.checker c.checker.ensures.shape ∙ ap (λ (a : App). with_subcommand a spec.checker) six in
    IfOk-weaker c.with_subcommand-8.result _ _ (λ m is. is ∙ ap (λ (a : App). with_subcommand a spec.exporter) seven) (c.with_subcommand-8.ensures spec.exporter c.exporter.ensures.shape)
