use Rattle.oram_settings.proofs.Arguments.{action_local, help_local, long_local, with_action, with_help, with_long}
use Rattle.oram_settings.proofs.command_line.salvage_flag.Goals as goal

pub returns-clause-rule : goal.returns-clause-rule
returns-clause-rule c =
    let longer = with_long c.new.result c.long.result _ c.new.ensures.rule _ c.long.ensures in
    let helped = with_help c.long.result c.help.result _ longer _ c.help.ensures in
    with_action c.help.result c.action.result _ helped _ c.action.ensures

pub returns-clause-local : goal.returns-clause-local
returns-clause-local c =
    let longer = long_local c.new.result c.long.result c.new.ensures.optional.1 _ c.long.ensures in
    let helped = help_local c.long.result c.help.result longer _ c.help.ensures in
    action_local c.help.result c.action.result helped _ c.action.ensures
