use Rattle.oram_settings.proofs.Arguments.{with_about, with_after_help, with_subcommand_required, with_version}
use Rattle.oram_settings.proofs.command_line.bare_command.Goals as goal

pub returns : goal.returns
returns c =
    let version = with_version c.new.result c.version.result _ c.new.ensures.app _ c.version.ensures in
    let about = with_about c.version.result c.about.result _ version _ c.about.ensures in
    let helped = with_after_help c.about.result c.after_help.result _ about _ c.after_help.ensures in
    with_subcommand_required c.after_help.result c.subcommand_required.result _ helped _ c.subcommand_required.ensures
