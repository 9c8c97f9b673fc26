use Rattle.std.proofs.Common.{ap}
use Rattle.std.proofs.lemmas.Result.{IfOk-weaker}
use Rattle.clap.specs.Simple.{App}
use Rattle.oram_settings.proofs.Arguments.{about_local, after_help_local, arg_local, version_local, with_about, with_after_help, with_arg, with_version}
use Rattle.oram_settings.proofs.command_line.disk_command.Goals as goal

pub returns-clause-local : goal.returns-clause-local
returns-clause-local c =
    let version = version_local c.new.result c.version.result c.new.ensures.local _ c.version.ensures in
    let about = about_local c.version.result c.about.result version _ c.about.ensures in
    let base = after_help_local c.about.result c.after_help.result about _ c.after_help.ensures in
    IfOk-weaker c.arg.result _ _ (λ m adds. arg_local c.after_help.result m c.word.result adds c.word.ensures.local base) c.arg.ensures

pub returns-clause-shape : goal.returns-clause-shape
returns-clause-shape c =
    let version = with_version c.new.result c.version.result _ c.new.ensures.app _ c.version.ensures in
    let about = with_about c.version.result c.about.result _ version _ c.about.ensures in
    let base = with_after_help c.about.result c.after_help.result _ about _ c.after_help.ensures in
    IfOk-weaker c.arg.result _ _ (λ m adds. ap (λ (a : App). a.top) (with_arg c.after_help.result m c.word.result adds c.word.ensures.local _ _ base c.word.ensures.rule)) c.arg.ensures
